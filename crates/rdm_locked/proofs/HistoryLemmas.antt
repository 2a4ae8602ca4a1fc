-- How the lists of clients' calls agree with the log, as it grows.
use Rattle.std.proofs.Common.{◌≡◌, ℕ, zero, suc, ◌+◌, Bool, true, false, List, [], ◌∷◌, ◌++◌, length}
use Rattle.std.proofs.Common.{refl, sym, ap, subst, ◌∙◌, None, Some, inl, inr, ◌⊎◌, arith, append-nil}
use Rattle.std.proofs.lemmas.List.{map-append}
use Rattle.std.proofs.lemmas.Bool.{eq-eqb, eqb-true}
use Rattle.std.specs.Prelude.{Result, Ok, Err, Option, ◌==◌, ◌≢◌, filter_map, option_map, slice_get, slice_set}
use Rattle.std.specs.Prelude.{slice_index_or}
use Rattle.std.specs.Prelude.{take}
use Rattle.std.specs.List.{AllByRecursion}
use Rattle.std.proofs.lemmas.List.Elements.{All-append, All-from_recursion, filter-append, filter_map-append}
use Rattle.arrayvec.specs.ArrayVec.{ArrayVec}
use Rattle.rdm_wire.specs.Lists.{EachAfter}
use Rattle.rdm_wire.specs.declared.device.Device.{Device}
use Rattle.rdm_join.specs.declared.event.LineEvent.{LineEvent}
use Rattle.rdm_log.specs.declared.entry.ClientId.{ClientId}
use Rattle.rdm_log.specs.declared.entry.Opening.{Opening}
use Rattle.rdm_log.specs.declared.entry.Entry.{Entry}
use Rattle.rdm_log.specs.declared.entry.Entry.TheVariants.{Collect}
use Rattle.rdm_log.specs.declared.event.Event.{Event}
use Rattle.rdm_log.specs.declared.event.Event.TheVariants as events
use Rattle.rdm_log.specs.declared.event.Answer.{Answer}
use Rattle.rdm_log.specs.declared.event.Answer.TheVariants as answers
use Rattle.rdm_log.specs.declared.fault.JoinFault.{JoinFault}
use Rattle.rdm_log.specs.declared.fault.LogFull.{LogFull}
use Rattle.rdm_log.specs.declared.fault.NotAsked.{NotAsked}
use Rattle.rdm_log.specs.declared.fault.WorkFault.{WorkFault}
use Rattle.rdm_log.specs.declared.fault.WorkFault.TheVariants as work_faults
use Rattle.rdm_log.specs.declared.work.Work.{Work}
use Rattle.rdm_log.specs.declared.work.Work.TheVariants as works
use Rattle.rdm_log.specs.log.Clients.{answers_to, collected}
use Rattle.rdm_log.specs.log.Legal.{Legal, MayFollow}
use Rattle.rdm_log.specs.log.LogState.{LogState, is_full_log}
use Rattle.rdm_log.specs.promises.Blocks.{GrowsBy, WorkLogs, WorkAdds, SubmitAdds, CollectAdds, work_accepted}
use Rattle.rdm_log.specs.promises.Blocks.{work_refused, UnlessFull}
use Rattle.rdm_wire.specs.declared.request.Request.{Request}
use Rattle.rdm_log.specs.declared.outcome.BoxedOutcome.{BoxedOutcome}
use Rattle.rdm_log.specs.declared.outcome.BoxedOutcome.TheVariants as boxed
use Rattle.rdm_log.specs.declared.outcome.DiscoveryEnd.{DiscoveryEnd}
use Rattle.rdm_log.specs.declared.outcome.Completion.{Completion}
use Rattle.rdm_log.specs.log.Entries.{collectors}
use denote.RawPtr.{null_ptr}
use Rattle.rdm_locked.proofs.CallLemmas.{no_full_work}
use Rattle.rdm_log.specs.promises.EventsHeadline.{brings, answer_to, given_to, collected_outcomes}
use Rattle.rdm_log.specs.promises.Explains.{Adds, IsAnswered}
use Rattle.rdm_log.specs.promises.Outcomes.{outcome_of, outcome_value, unboxed}
use Rattle.rdm_log.specs.promises.Outcomes.{request_outcome, discovery_outcome}
use Rattle.rdm_log.proofs.PromiseLemmas.BlockLemmas.{work_ok}
use Rattle.rdm_log.proofs.PromiseLemmas.CollectedEvents.{collected_once}
use Rattle.rdm_log.proofs.PromiseLemmas.EntriesOf.{EachOf, adds_each}
use Rattle.rdm_log.proofs.PromiseLemmas.OwnDiscoveries.{outcome_stays}
use Rattle.rdm_locked.specs.Calls.{is_call_of}
use Rattle.rdm_locked.specs.Clients.{calls_of, called, got, logged, entries_of, outcomes_of, Agrees}
use Rattle.rdm_locked.specs.body.Own.{AreCallsOf}
use Rattle.rdm_locked.specs.body.Keeps.{Keeps}
use Rattle.rdm_locked.specs.declared.history.LoggedCall.{LoggedCall}
use Rattle.rdm_log.proofs.PromiseLemmas.InOrder.{taken_index}

-- lists
same_consed : {X Y : Type 0} (f g : X → Option Y) (x : X) (xs : List X) → f x ≡ g x → filter_map f xs ≡ filter_map g xs
    → filter_map f (x ∷ xs) ≡ filter_map g (x ∷ xs)
same_consed {X} {Y} f g x xs same rest = here (g x) refl
  where
    here : (o : Option Y) → g x ≡ o → filter_map f (x ∷ xs) ≡ filter_map g (x ∷ xs)
    here None is = rw (same, is) rest
    here (Some y) is = rw (same, is) (ap (λ l. y ∷ l) rest)

filter_map_same : {X Y : Type 0} (f g : X → Option Y) (xs : List X)
    → ((i : ℕ) (x : X) → slice_get xs i ≡ Some x → f x ≡ g x) → filter_map f xs ≡ filter_map g xs
filter_map_same f g [] same = refl
filter_map_same f g (x ∷ xs) same =
    same_consed f g x xs (same 0 x refl) (filter_map_same f g xs (λ i y at. same (suc i) y at))

-- the outcomes that were collected stay as they are
outcomes_stay : (o : Opening) (c : ℕ) (h block : List Entry) → EachAfter (MayFollow o) (h ++ block)
    → collected_outcomes o c h (h ++ block) ≡ collected_outcomes o c h h
outcomes_stay o c h block each =
    filter_map_same (outcome_of (h ++ block)) (outcome_of h) (collected o c h)
    (λ i x at. outcome_stays o h block each c i x (taken_index _ (answers_to o c h) i x at))

outcomes_grow : (c : ℕ) (k k' : LogState) (e : Event) (r : Answer) → IsAnswered k e r k' → Legal k'.opening k'.entries
    → collected_outcomes k'.opening c k'.entries k'.entries
    ≡ collected_outcomes k.opening c k.entries k.entries ++ given_to c (e ∷ []) (r ∷ [])
outcomes_grow c k k' e r is legal =
    collected_once k (e ∷ []) (r ∷ []) k' (k', is, refl) legal.each c
    ∙ ap (λ l. l ++ given_to c (e ∷ []) (r ∷ [])) stays
  where
    stays : collected_outcomes k'.opening c k.entries k'.entries ≡ collected_outcomes k.opening c k.entries k.entries
    stays =
        subst (λ (s : LogState). collected_outcomes s.opening c k.entries s.entries
        ≡ collected_outcomes k.opening c k.entries k.entries) (sym is.grows)
        (outcomes_stay k.opening c k.entries is.block
        (subst (λ (s : LogState). EachAfter (MayFollow s.opening) s.entries) is.grows legal.each))

calls_grow : (c : ℕ) (h block : List Entry) → calls_of c (h ++ block) ≡ calls_of c h ++ calls_of c block
unfolding calls_of
calls_grow c h block = filter-append (is_call_of c) h block

-- a client's calls and outcomes agree with the log after an event, with those that it brought
agrees_more : (c : ℕ) (k k' : LogState) (e : Event) (r : Answer) (made more : List LoggedCall) → Agrees c k made
    → (is : IsAnswered k e r k') → Legal k'.opening k'.entries → entries_of more ≡ calls_of c is.block
    → outcomes_of more ≡ given_to c (e ∷ []) (r ∷ []) → Agrees c k' (made ++ more)
agrees_more c k k' e r made more a is legal calls outcomes = record {
  calls_are =
      map-append (λ (m : LoggedCall). m.entry) made more
      ∙ ap (λ l. l ++ entries_of more) a.calls_are
      ∙ ap (λ l. calls_of c k.entries ++ l) calls
      ∙ sym (calls_grow c k.entries is.block)
      ∙ ap (calls_of c) (sym (ap (λ (s : LogState). s.entries) is.grows));
  got_are =
      filter_map-append (λ (m : LoggedCall). option_map outcome_value m.outcome) made more
      ∙ ap (λ l. l ++ outcomes_of more) a.got_are
      ∙ ap (λ l. collected_outcomes k.opening c k.entries k.entries ++ l) outcomes
      ∙ sym (outcomes_grow c k k' e r is legal);
}

agrees_same : (c : ℕ) (k k' : LogState) (e : Event) (r : Answer) (made : List LoggedCall) → Agrees c k made
    → (is : IsAnswered k e r k') → Legal k'.opening k'.entries → calls_of c is.block ≡ []
    → given_to c (e ∷ []) (r ∷ []) ≡ [] → Agrees c k' made
agrees_same c k k' e r made a is legal calls outcomes =
    subst (Agrees c k') (append-nil made) (agrees_more c k k' e r made [] a is legal (sym calls) (sym outcomes))

-- an event that is no client's call
no_calls : (c : ℕ) (block : List Entry) → AllByRecursion (λ e. is_call_of c e ≡ false) block → calls_of c block ≡ []
unfolding calls_of
no_calls c [] all = refl
no_calls c (e ∷ block) all = rw all.0 (no_calls c block all.1)

pub keeps_quiet : (k k' : LogState) (e : Event) (r : Answer) (lists : List (List LoggedCall)) (joined : ℕ)
    → Keeps k lists joined → IsAnswered k e r k' → Legal k'.opening k'.entries
    → ((c : ℕ) → EachOf e (λ x. is_call_of c x ≡ false)) → ((c : ℕ) → given_to c (e ∷ []) (r ∷ []) ≡ [])
    → Keeps k' lists joined
keeps_quiet k k' e r lists joined keeps is legal each nothing = record {
  long = keeps.long;
  each = λ c. agrees_same c k k' e r (slice_index_or lists c []) (keeps.each c) is legal
      (no_calls c is.block (adds_each (λ x. is_call_of c x ≡ false) k e r is.block (each c) is.adds)) (nothing c);
}

pub keeps_pause : (k k' : LogState) (r : Result (Unit {0}) LogFull) (lists : List (List LoggedCall)) (joined : ℕ)
    → Keeps k lists joined → IsAnswered k events.Pause (answers.Pause r) k' → Legal k'.opening k'.entries
    → Keeps k' lists joined
keeps_pause k k' r lists joined keeps is legal =
    keeps_quiet k k' events.Pause (answers.Pause r) lists joined keeps is legal (λ c. refl) (λ c. refl)

pub keeps_resume : (k k' : LogState) (r : Result (Unit {0}) LogFull) (lists : List (List LoggedCall)) (joined : ℕ)
    → Keeps k lists joined → IsAnswered k events.Resume (answers.Resume r) k' → Legal k'.opening k'.entries
    → Keeps k' lists joined
keeps_resume k k' r lists joined keeps is legal =
    keeps_quiet k k' events.Resume (answers.Resume r) lists joined keeps is legal (λ c. refl) (λ c. refl)

pub keeps_close : (k k' : LogState) (lists : List (List LoggedCall)) (joined : ℕ) → Keeps k lists joined
    → IsAnswered k events.Close answers.Close k' → Legal k'.opening k'.entries → Keeps k' lists joined
keeps_close k k' lists joined keeps is legal =
    keeps_quiet k k' events.Close answers.Close lists joined keeps is legal
    (λ c. (refl, (λ n status len. refl, λ n run fault. refl))) (λ c. refl)

pub keeps_take : (k k' : LogState) (r : Result (Option (ArrayVec ℕ)) LogFull) (lists : List (List LoggedCall))
    (joined : ℕ) → Keeps k lists joined → IsAnswered k events.Take (answers.Take r) k' → Legal k'.opening k'.entries
    → Keeps k' lists joined
keeps_take k k' r lists joined keeps is legal =
    keeps_quiet k k' events.Take (answers.Take r) lists joined keeps is legal (λ c owner frame. refl) (λ c. refl)

pub keeps_deliver : (k k' : LogState) (event : LineEvent) (r : Result (Unit {0}) (NotAsked × LineEvent))
    (lists : List (List LoggedCall)) (joined : ℕ) → Keeps k lists joined
    → IsAnswered k (events.Deliver event) (answers.Deliver r) k' → Legal k'.opening k'.entries → Keeps k' lists joined
keeps_deliver k k' event r lists joined keeps is legal =
    keeps_quiet k k' (events.Deliver event) (answers.Deliver r) lists joined keeps is legal
    (λ c. (refl, (λ n status len. refl, λ n run fault. refl))) (λ c. refl)

-- a join
join_each : (c n : ℕ) → EachOf (events.Join n) (λ x. is_call_of c x ≡ false)
join_each c n = (λ d. refl, λ fault. refl)

pub keeps_refused : (k k' : LogState) (n : ℕ) (fault : JoinFault) (lists : List (List LoggedCall)) (joined : ℕ)
    → Keeps k lists joined → IsAnswered k (events.Join n) (answers.Join (Err fault)) k'
    → Legal k'.opening k'.entries → Keeps k' lists joined
keeps_refused k k' n fault lists joined keeps is legal =
    keeps_quiet k k' (events.Join n) (answers.Join (Err fault)) lists joined keeps is legal (λ c. join_each c n)
    (λ c. refl)

one_more : (lists : List (List LoggedCall)) (c : ℕ) → slice_index_or (lists ++ [] ∷ []) c [] ≡ slice_index_or lists c []
one_more [] zero = refl
one_more [] (suc c) = refl
one_more (l ∷ lists) zero = refl
one_more (l ∷ lists) (suc c) = one_more lists c

length_more : (lists : List (List LoggedCall)) → length (lists ++ [] ∷ []) ≡ length lists + 1
length_more [] = refl
length_more (l ∷ lists) = omega (arith, length_more lists)

pub keeps_join : (k k' : LogState) (n : ℕ) (client : ClientId) (lists : List (List LoggedCall)) (joined : ℕ)
    → Keeps k lists joined → IsAnswered k (events.Join n) (answers.Join (Ok client)) k'
    → Legal k'.opening k'.entries → Keeps k' (lists ++ [] ∷ []) (joined + 1)
keeps_join k k' n client lists joined keeps is legal =
    let same = keeps_quiet k k' (events.Join n) (answers.Join (Ok client)) lists joined keeps is legal
    (λ c. join_each c n) (λ c. refl) in
    record {
      long = omega (arith, length_more lists, keeps.long);
      each = λ c. subst (Agrees c k') (sym (one_more lists c)) (same.each c);
    }

-- a client's call
pub index_set : (lists : List (List LoggedCall)) (at c : ℕ) (items more : List LoggedCall)
    → slice_get lists at ≡ Some items
    → ((c ≡ at) × (slice_index_or (slice_set lists at more) c [] ≡ more) × (slice_index_or lists c [] ≡ items))
    ⊎ ((c ≢ at) × (slice_index_or (slice_set lists at more) c [] ≡ slice_index_or lists c []))
index_set [] zero c items more here = absurd (none here)
  where
    none : ◌≡◌ {A = Option (List LoggedCall)} None (Some items) → ⊥
    none e = cc
index_set [] (suc at) c items more here = absurd (none here)
  where
    none : ◌≡◌ {A = Option (List LoggedCall)} None (Some items) → ⊥
    none e = cc
index_set (l ∷ lists) zero zero items more here = inl (refl, refl, cc)
index_set (l ∷ lists) zero (suc c) items more here = inr ((λ q. omega (arith, q)), refl)
index_set (l ∷ lists) (suc at) zero items more here = inr ((λ q. omega (arith, q)), refl)
index_set (l ∷ lists) (suc at) (suc c) items more here =
    elim (index_set lists at c items more here)
    [ inl p ↦ inl (ap suc p.0, p.1, p.2) | inr p ↦ inr ((λ q. p.0 (omega (arith, q))), p.1) ]

pub length_set : (lists : List (List LoggedCall)) (at : ℕ) (l : List LoggedCall)
    → length (slice_set lists at l) ≡ length lists
length_set [] at l = refl
length_set (m ∷ lists) zero l = refl
length_set (m ∷ lists) (suc at) l = ap suc (length_set lists at l)

pub keeps_at : (k k' : LogState) (e : Event) (r : Answer) (lists : List (List LoggedCall)) (joined at : ℕ)
    (items more : List LoggedCall) → Keeps k lists joined → slice_get lists at ≡ Some items → (is : IsAnswered k e r k')
    → Legal k'.opening k'.entries → entries_of more ≡ calls_of at is.block
    → outcomes_of more ≡ given_to at (e ∷ []) (r ∷ [])
    → ((c : ℕ) → c ≢ at → (calls_of c is.block ≡ []) × (given_to c (e ∷ []) (r ∷ []) ≡ []))
    → Keeps k' (slice_set lists at (items ++ more)) joined
keeps_at k k' e r lists joined at items more keeps here is legal calls outcomes others = record {
  long = length_set lists at (items ++ more) ∙ keeps.long;
  each = λ c.
      elim (index_set lists at c items (items ++ more) here) [
        | inl p ↦ subst (Agrees c k') (sym p.1) (mine c p.0 p.2)
        | inr p ↦ subst (Agrees c k') (sym p.1)
            (agrees_same c k k' e r (slice_index_or lists c []) (keeps.each c) is legal (others c p.0).0
            (others c p.0).1)
      ];
}
  where
    mine : (c : ℕ) → c ≡ at → slice_index_or lists c [] ≡ items → Agrees c k' (items ++ more)
    mine c same found =
        agrees_more c k k' e r items more (subst (Agrees c k) found (keeps.each c)) is legal (rw same calls)
        (rw same outcomes)

-- whose call an entry is
same_client : (c : ℕ) → (c == c) ≡ true
same_client c = eq-eqb c c refl

pub other_client : (c d : ℕ) → c ≢ d → (c == d) ≡ false
other_client c d apart = by_flag (c == d) refl
  where
    by_flag : (b : Bool) → (c == d) ≡ b → (c == d) ≡ false
    by_flag true is = absurd (apart (eqb-true c d is))
    by_flag false is = is

own_call : (c : ℕ) (e : Entry) → is_call_of c e ≡ true → calls_of c (e ∷ []) ≡ e ∷ []
unfolding calls_of
own_call c e is = rw is refl

others_call : (c : ℕ) (e : Entry) → is_call_of c e ≡ false → calls_of c (e ∷ []) ≡ []
unfolding calls_of
others_call c e is = rw is refl

no_entry : (c : ℕ) → calls_of c [] ≡ []
unfolding calls_of
no_entry c = refl

-- work
work_own : (d : ClientId) (n : ℕ) (work : Work) → is_call_of d.0 (work_accepted d n work) ≡ true
work_own d n (works.Submit request) = same_client d.0
work_own d n (works.Discover kind) = same_client d.0

work_other : (c : ℕ) (d : ClientId) (n : ℕ) (work : Work) → c ≢ d.0 → is_call_of c (work_accepted d n work) ≡ false
work_other c d n (works.Submit request) apart = other_client c d.0 apart
work_other c d n (works.Discover kind) apart = other_client c d.0 apart

work_given : (c : ℕ) (d : ClientId) (work : Work) (r : Answer) → given_to c (brings d work ∷ []) (r ∷ []) ≡ []
work_given c d (works.Submit request) r = refl
work_given c d (works.Discover kind) r = refl

ok_differs : {X : Type 0} (n : ℕ) (x : X) → ◌≡◌ {A = Result ℕ X} (Ok n) (Err x) → ⊥
ok_differs n x e = cc

same_fault : (fault other : WorkFault) → ◌≡◌ {A = Result ℕ WorkFault} (Err fault) (Err other) → fault ≡ other
same_fault fault other e = cc

-- its block is that of an event
work_event : (k : LogState) (c : ClientId) (work : Work) (r : Result ℕ WorkFault) (block : List Entry)
    → WorkLogs k c work r block → Adds k (brings c work) (answer_to work r) block
work_event k c (works.Discover kind) r block is = is
work_event k c (works.Submit request) (Ok n) block is = by_flag (is_full_log k) is
  where
    by_flag : (b : Bool)
        → UnlessFull b (◌≡◌ {A = Result ℕ WorkFault} (Ok n) (Err work_faults.LogFull) × (block ≡ []))
        (WorkAdds k.opening k.entries c (works.Submit request) (Ok n) block)
        → UnlessFull b (◌≡◌ {A = Result ℕ (WorkFault × Request)} (Ok n) (Err (work_faults.LogFull, request))
        × (block ≡ [])) (SubmitAdds k.opening k.entries c request (Ok n) block)
    by_flag true refused = absurd (ok_differs n work_faults.LogFull refused.0)
    by_flag false added = added
work_event k c (works.Submit request) (Err fault) block is = by_flag (is_full_log k) is
  where
    by_flag : (b : Bool)
        → UnlessFull b (◌≡◌ {A = Result ℕ WorkFault} (Err fault) (Err work_faults.LogFull) × (block ≡ []))
        (WorkAdds k.opening k.entries c (works.Submit request) (Err fault) block)
        → UnlessFull b (◌≡◌ {A = Result ℕ (WorkFault × Request)} (Err (fault, request))
        (Err (work_faults.LogFull, request)) × (block ≡ []))
        (SubmitAdds k.opening k.entries c request (Err (fault, request)) block)
    by_flag true refused =
        (ap (λ (f : WorkFault). Err (f, request)) (same_fault fault work_faults.LogFull refused.0), refused.1)
    by_flag false added = (added.0, refl, added.1)

-- what it leaves in the log: one entry, or none
pub record IsLogged (c : ClientId) (work : Work) (r : Result ℕ WorkFault) (block : List Entry) : Type 0 where
  pub own : entries_of (logged c work r) ≡ calls_of c.0 block
  pub others : (d : ℕ) → d ≢ c.0 → calls_of d block ≡ []

refused_own : (d : ClientId) (work : Work) (fault : WorkFault) → is_call_of d.0 (work_refused d work fault) ≡ true
refused_own d work fault = same_client d.0

own_more : (c : ℕ) (items : List LoggedCall) (m : LoggedCall) → AreCallsOf c items → is_call_of c m.entry ≡ true
    → AreCallsOf c (items ++ m ∷ [])
own_more c items m all own =
    All-append (λ (x : LoggedCall). is_call_of c x.entry ≡ true) items (m ∷ []) all
    (All-from_recursion (λ (x : LoggedCall). is_call_of c x.entry ≡ true) (m ∷ []) (own, tt))

own_refused : (c : ℕ) (client : ClientId) (work : Work) (fault : WorkFault) (items : List LoggedCall) → client.0 ≡ c
    → AreCallsOf c items → AreCallsOf c (items ++ called (work_refused client work fault) ∷ [])
own_refused c client work fault items own all =
    own_more c items (called (work_refused client work fault)) all
    (subst (λ d. is_call_of d (work_refused client work fault) ≡ true) own (refused_own client work fault))

refused_logged : (c : ClientId) (work : Work) (fault : WorkFault) → (fault ≡ work_faults.LogFull → ⊥)
    → entries_of (logged c work (Err fault)) ≡ work_refused c work fault ∷ []
refused_logged c work work_faults.Closed other = refl
refused_logged c work work_faults.UnknownClient other = refl
refused_logged c work work_faults.Full other = refl
refused_logged c work work_faults.LogFull other = absurd (other refl)

work_logged : (k : LogState) (c : ClientId) (work : Work) (r : Result ℕ WorkFault) (block : List Entry)
    → WorkLogs k c work r block → IsLogged c work r block
work_logged k c work (Ok n) block is =
    let one = (work_ok k c work n block is).2 in
    record {
      own = rw one (sym (own_call c.0 (work_accepted c n work) (work_own c n work)));
      others = λ d apart. rw one (others_call d (work_accepted c n work) (work_other d c n work apart));
    }
work_logged k c work (Err fault) block is = by_flag (is_full_log k) is
  where
    by_flag : (b : Bool) → UnlessFull b (◌≡◌ {A = Result ℕ WorkFault} (Err fault) (Err work_faults.LogFull)
        × (block ≡ [])) (WorkAdds k.opening k.entries c work (Err fault) block) → IsLogged c work (Err fault) block
    by_flag true refused = record {
      own = rw (same_fault fault work_faults.LogFull refused.0, refused.1) (sym (no_entry c.0));
      others = λ d apart. rw refused.1 (no_entry d);
    }
    by_flag false refused =
        let other : fault ≡ work_faults.LogFull → ⊥ = λ full. no_full_work k.opening k.entries c.0 work
        (refused.0 ∙ ap Some full) in
        record {
          own = refused_logged c work fault other
              ∙ rw refused.1 (sym (own_call c.0 (work_refused c work fault) (refused_own c work fault)));
          others = λ d apart. rw refused.1 (others_call d (work_refused c work fault) (other_client d c.0 apart));
        }

logged_outcomes : (c : ClientId) (work : Work) (r : Result ℕ WorkFault) → outcomes_of (logged c work r) ≡ []
logged_outcomes c work (Ok n) = refl
logged_outcomes c work (Err work_faults.Closed) = refl
logged_outcomes c work (Err work_faults.UnknownClient) = refl
logged_outcomes c work (Err work_faults.Full) = refl
logged_outcomes c work (Err work_faults.LogFull) = refl

pub keeps_work : (k k' : LogState) (c : ClientId) (work : Work) (r : Result ℕ WorkFault)
    (lists : List (List LoggedCall)) (joined at : ℕ) (items : List LoggedCall) → Keeps k lists joined
    → slice_get lists at ≡ Some items → c.0 ≡ at → GrowsBy k (WorkLogs k c work r) k' → Legal k'.opening k'.entries
    → Keeps k' (slice_set lists at (items ++ logged c work r)) joined
keeps_work k k' c work r lists joined at items keeps here own grows legal =
    let is : IsAnswered k (brings c work) (answer_to work r) k' = record {
      block = grows.block;
      adds = work_event k c work r grows.block grows.adds;
      grows = grows.grows;
    } in
    let entries = work_logged k c work r grows.block grows.adds in
    keeps_at k k' (brings c work) (answer_to work r) lists joined at items (logged c work r) keeps here is legal
    (rw (sym own) entries.own) (logged_outcomes c work r ∙ sym (work_given at c work (answer_to work r)))
    (λ d apart. (entries.others d (λ same. apart (same ∙ own)), work_given d c work (answer_to work r)))

-- a collect
given_own : (c : ClientId) (outcome : BoxedOutcome)
    → given_to c.0 (events.Collect c ∷ []) (answers.Collect (Ok (Some outcome)) ∷ []) ≡ outcome_value (unboxed
    outcome) ∷ []
given_own c outcome = rw (same_client c.0) refl

given_other : (d : ℕ) (c : ClientId) (outcome : BoxedOutcome) → d ≢ c.0
    → given_to d (events.Collect c ∷ []) (answers.Collect (Ok (Some outcome)) ∷ []) ≡ []
given_other d c outcome apart = rw (other_client d c.0 apart) refl

pub keeps_collect : (k k' : LogState) (c : ClientId) (outcome : BoxedOutcome) (lists : List (List LoggedCall))
    (joined at : ℕ) (items : List LoggedCall) → Keeps k lists joined → slice_get lists at ≡ Some items → c.0 ≡ at
    → GrowsBy k (CollectAdds k.opening k.entries c (Some (unboxed outcome))) k' → Legal k'.opening k'.entries
    → Keeps k' (slice_set lists at (items ++ got c (unboxed outcome) ∷ [])) joined
keeps_collect k k' c outcome lists joined at items keeps here own grows legal =
    let is : IsAnswered k (events.Collect c) (answers.Collect (Ok (Some outcome))) k' = grows in
    let one = grows.adds.1 in
    keeps_at k k' (events.Collect c) (answers.Collect (Ok (Some outcome))) lists joined at items
    (got c (unboxed outcome) ∷ []) keeps here is legal
    (rw (sym own, one) (sym (own_call c.0 (Collect c) (same_client c.0))))
    (rw (sym own) (sym (given_own c outcome)))
    (λ d apart. (
      rw one (others_call d (Collect c) (other_client d c.0 (λ same. apart (same ∙ own)))),
      given_other d c outcome (λ same. apart (same ∙ own)),
    ))

pub keeps_request : (k k' : LogState) (c : ClientId) (outcome : ℕ × Completion) (lists : List (List LoggedCall))
    (joined at : ℕ) (items : List LoggedCall) → Keeps k lists joined → slice_get lists at ≡ Some items → c.0 ≡ at
    → GrowsBy k (CollectAdds k.opening k.entries c (Some (request_outcome outcome))) k' → Legal k'.opening k'.entries
    → Keeps k' (slice_set lists at (items ++ got c (request_outcome outcome) ∷ [])) joined
keeps_request k k' c outcome lists joined at items keeps here own grows legal =
    keeps_collect k k' c (boxed.Request outcome.0 outcome.1) lists joined at items keeps here own grows legal

-- a discovery's, as if its devices were in some box
pub keeps_discovery : (k k' : LogState) (c : ClientId) (end : DiscoveryEnd) (devices : List Device)
    (lists : List (List LoggedCall)) (joined at : ℕ) (items : List LoggedCall) → Keeps k lists joined
    → slice_get lists at ≡ Some items → c.0 ≡ at
    → GrowsBy k (CollectAdds k.opening k.entries c (Some (discovery_outcome end devices))) k'
    → Legal k'.opening k'.entries
    → Keeps k' (slice_set lists at (items ++ got c (discovery_outcome end devices) ∷ [])) joined
keeps_discovery k k' c end devices lists joined at items keeps here own grows legal =
    keeps_collect k k' c
    (boxed.Discovery end (record {
      ptr = null_ptr;
      alloc = record { memory = record { seal = tt } };
      value = devices;
    })) lists joined at items keeps here own grows legal

-- the beginning
nothing_collected : (o : Opening) (c : ℕ) → collected_outcomes o c [] [] ≡ []
unfolding answers_to collectors
nothing_collected o c = refl

pub keeps_nothing : (k : LogState) → k.entries ≡ [] → Keeps k [] 0
keeps_nothing k none = record { long = refl; each = empty }
  where
    no_list : (c : ℕ) → ◌≡◌ {A = List LoggedCall} (slice_index_or [] c []) []
    no_list zero = refl
    no_list (suc c) = refl

    empty : (c : ℕ) → Agrees c k (slice_index_or [] c [])
    empty c = subst (Agrees c k) (sym (no_list c)) (record {
      calls_are = rw none (sym (no_entry c));
      got_are = rw none (sym (nothing_collected k.opening c));
    })

-- a share's calls stay its client's
pub own_added : (c d : ℕ) (items added more : List LoggedCall) → d ≡ c → added ≡ items ++ more
    → AreCallsOf c (items ++ more) → AreCallsOf d added
own_added c d items added more same is own =
    subst (AreCallsOf d) (sym is) (subst (λ e. AreCallsOf e (items ++ more)) (sym same) own)

pub own_logged : (c : ℕ) (client : ClientId) (work : Work) (r : Result ℕ WorkFault) (items : List LoggedCall)
    → client.0 ≡ c → AreCallsOf c items → AreCallsOf c (items ++ logged client work r)
own_logged c client work (Ok n) items own all =
    own_more c items (called (work_accepted client n work)) all
    (subst (λ d. is_call_of d (work_accepted client n work) ≡ true) own (work_own client n work))
own_logged c client work (Err work_faults.LogFull) items own all = subst (AreCallsOf c) (sym (append-nil items)) all
own_logged c client work (Err work_faults.Closed) items own all =
    own_refused c client work work_faults.Closed items own all
own_logged c client work (Err work_faults.UnknownClient) items own all =
    own_refused c client work work_faults.UnknownClient items own all
own_logged c client work (Err work_faults.Full) items own all =
    own_refused c client work work_faults.Full items own all
