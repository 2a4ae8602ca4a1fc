-- Comparing what clients were told with a log.
use Rattle.std.proofs.Common.{◌≡◌, ℕ, suc, subst, ◌+◌, ◌<◌, ◌≤◌, List, [], ◌∷◌, ◌++◌, length, map, drop, take, get_or}
use Rattle.std.proofs.Common.{refl, ap, sym, ◌∙◌, Option, Some, None, Bool, true, false, arith}
use Rattle.std.specs.Prelude.{◌==◌, filter_map}
use Rattle.std.specs.Bool.{OnTrue}
use Rattle.std.proofs.lemmas.Bool.{eqb-true}
use Rattle.std.proofs.lemmas.List.{at_drop_more, append_assoc, append-nil, length-take-le, take_more}
use Rattle.std.proofs.Math.ListN.{drop_of_length-le}
use Rattle.rdm_wire.specs.declared.request.Request.{Request}
use Rattle.rdm_agent.specs.declared.kind.Kind.{Kind}
use Rattle.rdm_log.specs.declared.entry.ClientId.{ClientId}
use Rattle.rdm_log.specs.declared.entry.Opening.{Opening}
use Rattle.rdm_log.specs.declared.entry.Entry.{Entry}
use Rattle.rdm_log.specs.declared.entry.Entry.TheVariants.{Join, Refuse, Accept, Ask, Send, Came, Finish, Answer}
use Rattle.rdm_log.specs.declared.entry.Entry.TheVariants.{Collect, Pause, Resume, Close}
use Rattle.rdm_log.specs.log.Entries.{accepted_of, asked_of}
use Rattle.rdm_client.specs.declared.told.Told.{Told}
use Rattle.rdm_client.specs.declared.told.AskTold.{AskTold}
use Rattle.rdm_client.specs.declared.told.Collected.{Collected}
use Rattle.rdm_client.specs.declared.told.Collected.TheVariants as collected
use Rattle.rdm_serving.specs.LoggedOutcomes.{AreLogged, AllLogged, end_told, ends_logged, faults_logged}
use Rattle.rdm_serving.specs.body.Scripts.{Notes, IsToldBy}
use Rattle.rdm_reports.specs.declared.outcomes.Discovered.{Discovered}
use Rattle.rdm_reports.specs.declared.outcomes.Outcomes.{Outcomes}

module _ {X : Type 0} where
  -- what f finds from the i-th entry on, where it finds nothing there, and where it finds x
  pub found_skip : (f : Entry → Option X) (h : List Entry) (i : ℕ) (e : Entry) → i < length h → e ≡ get_or h i e
      → f e ≡ None → filter_map f (drop i h) ≡ filter_map f (drop (i + 1) h)
  found_skip f h i e within is other =
      at_drop_more (filter_map f) h i e within ∙ ap (λ x. filter_map f (x ∷ drop (i + 1) h)) (sym is) ∙ rw other refl

  pub found_next : (f : Entry → Option X) (h : List Entry) (i : ℕ) (e : Entry) (x : X) → i < length h → e ≡ get_or h i e
      → f e ≡ Some x → filter_map f (drop i h) ≡ x ∷ filter_map f (drop (i + 1) h)
  found_next f h i e x within is there =
      at_drop_more (filter_map f) h i e within ∙ ap (λ x. filter_map f (x ∷ drop (i + 1) h)) (sym is) ∙ rw there refl

  pub found_end : (f : Entry → Option X) (h : List Entry) (i : ℕ) → length h ≤ i → filter_map f (drop i h) ≡ []
  found_end f h i past = rw (drop_of_length-le h past) refl

  module _ {E : Type 0} where
    -- where the first of both lists are the same, the rest decides
    pub told_next : {P : Type 0} (g : E → X) (x : X) (xs : List X) (e : E) (left later : List E) → left ≡ e ∷ later
        → x ≡ g e → (x ∷ xs ≡ map g left → P) → xs ≡ map g later → P
    told_next g x xs e left later is first both rest = both (rw (is, first, rest) refl)

    -- at the end of both
    pub told_end : {P : Type 0} (g : E → X) (left : List E) (b : Bool) → ([] ≡ map g left → P) → b ≡ (length left == 0)
        → OnTrue b P
    told_end g left b both is = by_test left b both is
      where
        by_test : {P : Type 0} (left : List E) (b : Bool) → ([] ≡ map g left → P) → b ≡ (length left == 0) → OnTrue b P
        by_test [] b both is = rw is (both refl)
        by_test (y ∷ left) true both is = absurd (let none = eqb-true (length (y ∷ left)) 0 (sym is) in omega arith)
        by_test (y ∷ left) false both is = tt

  -- with a number for each that was found: those before the i-th entry, and those from it on, are all
  pub numbers_skip : (f : Entry → Option X) (number : X → ℕ) (h : List Entry) (i : ℕ) (e : Entry) (before all : List ℕ)
      → i < length h → e ≡ get_or h i e → f e ≡ None
      → before ++ map number (filter_map f (drop i h)) ≡ all
      → before ++ map number (filter_map f (drop (i + 1) h)) ≡ all
  numbers_skip f number h i e before all within is other whole =
      ap (λ xs. before ++ map number xs) (sym (found_skip f h i e within is other)) ∙ whole

  pub numbers_next : (f : Entry → Option X) (number : X → ℕ) (h : List Entry) (i : ℕ) (e : Entry) (x : X)
      (before all : List ℕ) → i < length h → e ≡ get_or h i e → f e ≡ Some x
      → before ++ map number (filter_map f (drop i h)) ≡ all
      → (before ++ number x ∷ []) ++ map number (filter_map f (drop (i + 1) h)) ≡ all
  numbers_next f number h i e x before all within is there whole =
      append_assoc before (number x ∷ []) (map number (filter_map f (drop (i + 1) h)))
      ∙ ap (λ xs. before ++ map number xs) (sym (found_next f h i e x within is there)) ∙ whole

  pub numbers_end : (f : Entry → Option X) (number : X → ℕ) (h : List Entry) (i : ℕ) (before all : List ℕ)
      → length h ≤ i → before ++ map number (filter_map f (drop i h)) ≡ all → before ≡ all
  numbers_end f number h i before all past whole =
      sym (append-nil before) ∙ ap (λ xs. before ++ map number xs) (sym (found_end f h i past)) ∙ whole

-- an entry that is no Accept, and no Ask
pub no_accept : (e : Entry) → ((c : ClientId) (n : ℕ) (request : Request) → e ≡ Accept c n request → ⊥)
    → accepted_of e ≡ None
no_accept (Accept c n request) other = absurd (other c n request refl)
no_accept (Join c n) other = refl
no_accept (Refuse c call cause) other = refl
no_accept (Ask c n kind) other = refl
no_accept (Send owner frame) other = refl
no_accept (Came event) other = refl
no_accept (Finish n status len) other = refl
no_accept (Answer n run fault) other = refl
no_accept (Collect c) other = refl
no_accept Pause other = refl
no_accept Resume other = refl
no_accept Close other = refl

pub no_ask : (e : Entry) → ((c : ClientId) (n : ℕ) (kind : Kind) → e ≡ Ask c n kind → ⊥) → asked_of e ≡ None
no_ask (Ask c n kind) other = absurd (other c n kind refl)
no_ask (Join c n) other = refl
no_ask (Refuse c call cause) other = refl
no_ask (Accept c n request) other = refl
no_ask (Send owner frame) other = refl
no_ask (Came event) other = refl
no_ask (Finish n status len) other = refl
no_ask (Answer n run fault) other = refl
no_ask (Collect c) other = refl
no_ask Pause other = refl
no_ask Resume other = refl
no_ask Close other = refl

logged_more : (o : Opening) (h : List Entry) (c : ℕ) (xs : List Outcomes) (x : Outcomes) → AllLogged o h c xs
    → AreLogged o h (c + length xs) x → AllLogged o h c (xs ++ x ∷ [])
logged_more o h c [] x all here = (subst (λ n. AreLogged o h n x) (plain c) here, tt)
  where
    plain : (n : ℕ) → n + 0 ≡ n
    plain n = omega arith
logged_more o h c (y ∷ ys) x all here =
    (all.0, logged_more o h (c + 1) ys x all.1 (subst (λ n. AreLogged o h n x) (later c (length ys)) here))
  where
    later : (n m : ℕ) → n + suc m ≡ (n + 1) + m
    later n m = omega arith

-- one more client
pub logged_next : (o : Opening) (h : List Entry) (told : List Outcomes) (i : ℕ) (x : Outcomes) → i < length told
    → x ≡ get_or told i x
    → AllLogged o h 0 (take i told) → AreLogged o h i x → AllLogged o h 0 (take (i + 1) told)
logged_next o h told i x lt at all here =
    let more = take_more told i x lt ∙ ap (λ w. take i told ++ w ∷ []) (sym at) in
    let many : i
    ≡ 0 + length (take i told) =
    sym (none_more (length (take i told)) ∙ length-take-le i told (omega (arith, lt))) in
    subst (λ xs. AllLogged o h 0 xs) (sym more)
    (logged_more o h 0 (take i told) x all (subst (λ n. AreLogged o h n x) many here))
  where
    none_more : (n : ℕ) → 0 + n ≡ n
    none_more n = omega arith

-- a client's requests and its discoveries
pub logged_both : (o p : Opening) (h k : List Entry) (c : ℕ) (told : Outcomes) (rs : List Told) (ds : List Discovered)
    (b : Bool) → p ≡ o → k ≡ h → rs ≡ told.requests.items → ds ≡ told.discoveries.items
    → ends_logged p c k ≡ map end_told rs → OnTrue b (faults_logged p c k ≡ map (λ (d : Discovered). d.fault) ds)
    → OnTrue b (AreLogged o h c told)
logged_both o p h k c told rs ds true opening entries requests discoveries ends faults =
    record {
      requests = rw (opening, entries, requests) at ends;
      discoveries = rw (opening, entries, discoveries) at faults;
    }
logged_both o p h k c told rs ds false opening entries requests discoveries ends faults = tt

-- a discovery that a collect gave is noted
pub noted_ask : (some : Option Collected) (given : Collected) (told : AskTold) (old new : Outcomes) (d : Discovered)
    → some ≡ Some given → given ≡ collected.Ask told → IsToldBy told d
    → new.discoveries.items ≡ old.discoveries.items ++ d ∷ [] → new.requests ≡ old.requests → Notes some old new
noted_ask some given told old new d is kind by more same = rw (is, kind) (d, by, more, same)
