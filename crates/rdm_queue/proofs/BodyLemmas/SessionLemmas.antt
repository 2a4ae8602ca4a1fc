-- A session's entries always fit into its log, and its controller stands after it.
use Rattle.rdm_queue.proofs.Common.{◌≡◌, ℕ, ◌+◌, ◌-◌, ◌*◌, ◌≤◌, if◌then◌else◌, Bool, true, false, List, [], ◌∷◌, ◌++◌}
use Rattle.rdm_queue.proofs.Common.{append_assoc, append-nil, length, length-append, refl, sym, ap, arith, ◌∙◌, Ok}
use Rattle.rdm_queue.proofs.Common.{ltb-false, unfinished, unanswered}
use Rattle.rdm_queue.proofs.Common.{LineEvent, ClientId, Work, work_accepted}
use Rattle.rdm_queue.proofs.Common.{Setup, Entry, Came, Finish, Answer, Close, accepts, asks, finishes, answers}
use Rattle.rdm_queue.proofs.Common.{collectors, is_closed, awaited, LogState, grown, opened, is_result, AllResults}
use Rattle.rdm_queue.proofs.Common.{IsWithResults, CloseAdds, FaultNeedsClose, AnswersInBound, QueueState, StandsAfter}
use Rattle.rdm_queue.proofs.Common.{StandsAmid, SessionInvariant, SessionAmid, EachAfter, MayFollow, empty_in_bound}
use Rattle.rdm_queue.proofs.Common.{IsSetUp}
use Rattle.std.proofs.lemmas.Bool.{le-ltb}
use Rattle.rdm_log.specs.log.History.{reserved, uncollected_count}
use Rattle.rdm_log.specs.log.LogState.{free_entries, is_full_log, drained}
use Rattle.rdm_log.specs.declared.work.Work.TheVariants.{Submit, Discover}
use Rattle.rdm_log.specs.promises.Blocks.{DeliverAdds, GrowsBy}
use Rattle.rdm_queue.specs.body.State.{uncollected}
use Rattle.rdm_queue.specs.body.SessionInvariant.{HasRoom, FinishesDue}
use Rattle.rdm_log.proofs.BoundLemmas.{after_growth}
use Rattle.rdm_log.proofs.PromiseLemmas.LogInBoundLemmas.{in_bound_grows}
use Rattle.rdm_log.proofs.LogLemmas.RoomLemmas.{added, added_by, used_block}
use Rattle.rdm_log.proofs.PromiseLemmas.ExplainsLemmas.{grown_twice}

-- a block within the free entries
room_grown : (k : LogState) (block : List Entry) → HasRoom k → EachAfter (MayFollow k.opening) (k.entries ++ block)
    → added_by block ≤ free_entries k → HasRoom (grown k block)
room_grown k block room each free = within (used_block k.opening k.entries block each) room
  where
    within : {n : ℕ} → n ≡ length k.entries + reserved k.opening k.entries + added_by block
        → length k.entries + reserved k.opening k.entries ≤ k.room → n ≤ k.room
    within e r = omega arith

pub session_grown : (s new : QueueState) (k : LogState) (block : List Entry) → SessionInvariant s k
    → StandsAfter k.opening (k.entries ++ block) new → AnswersInBound k block
    → added_by block ≤ free_entries k → SessionInvariant new (grown k block)
session_grown s new k block kept after bound free = record {
  after = after;
  in_bound = in_bound_grows k block kept.in_bound bound;
  room = room_grown k block kept.room after.legal.each free;
}

pub amid_grown : (s new : QueueState) (k : LogState) (e : Entry) → SessionAmid s k
    → StandsAmid k.opening (k.entries ++ e ∷ []) new → FaultNeedsClose k e → added e ≡ 0
    → SessionAmid new (grown k (e ∷ []))
amid_grown s new k e before amid bound none = record {
  amid = amid;
  in_bound = in_bound_grows k (e ∷ []) before.in_bound (bound, tt);
  room = room_grown k (e ∷ []) before.room amid.each (omega (arith, none));
}

pub amid_begun : (s new : QueueState) (k : LogState) (e : Entry) → SessionInvariant s k
    → StandsAmid k.opening (k.entries ++ e ∷ []) new → FaultNeedsClose k e → added e ≡ 0
    → SessionAmid new (grown k (e ∷ []))
amid_begun s new k e kept amid bound none = record {
  amid = amid;
  in_bound = in_bound_grows k (e ∷ []) kept.in_bound (bound, tt);
  room = room_grown k (e ∷ []) kept.room amid.each (omega (arith, none));
}

-- the entries fit
pub room_for : (k : LogState) (e : Entry) → HasRoom (grown k (e ∷ [])) → length k.entries + 1 ≤ k.room
room_for k e room = omega (arith, room, length-append k.entries (e ∷ []))

pub free_of : (k : LogState) → is_full_log k ≡ false → 3 ≤ free_entries k
free_of k free = ltb-false (free_entries k) 3 free

-- at most two more entries are reserved than for what is outstanding
few_reserved : (closed awaits : Bool) (n m : ℕ) → n ≤ m
    → (if closed then 0 else 1) + (if awaits then 1 else 0) + n ≤ m + 2
few_reserved true true n m most = omega arith
few_reserved true false n m most = omega arith
few_reserved false true n m most = omega arith
few_reserved false false n m most = omega arith

-- a log with five more unused entries than can be reserved for what is outstanding isn't full
pub ample_room : (s : QueueState) (k : LogState) (most : ℕ) → SessionInvariant s k
    → 2 * (length s.waiting + length s.asked) + uncollected s ≤ most → most + 5 ≤ k.room - length k.entries
    → is_full_log k ≡ false
ample_room s k most kept few unused =
    let stands = kept.after.stands in
    let waiting = ap length stands.waiting_are in
    let asked = ap length stands.asked_are in
    let counted : 2 * (length (unfinished k.entries) + length (unanswered k.entries)) + uncollected_count k.entries
    ≤ most = omega (arith, waiting, asked, stands.all_outcomes, few) in
    let all = few_reserved (is_closed k.opening k.entries) (awaited k.entries) _ most counted in
    le-ltb (free_entries k) 3 (omega (arith, all, unused))

-- a Finish takes no free entry
pub result_added : (e : Entry) → is_result e ≡ true → added e ≡ 0
result_added (Finish n status len) is = refl
result_added (Answer n run fault) is = refl
result_added e is = absurd (no is)
  where
    no : false ≡ true → ⊥
    no h = cc

-- the entry of accepted work takes three, and is no Answer
pub work_added : (c : ClientId) (n : ℕ) (work : Work) → added (work_accepted c n work) ≡ 3
work_added c n (Submit request) = refl
work_added c n (Discover kind) = refl

pub work_in_bound : (k : LogState) (c : ClientId) (n : ℕ) (work : Work)
    → AnswersInBound k (work_accepted c n work ∷ [])
work_in_bound k c n (Submit request) = (tt, tt)
work_in_bound k c n (Discover kind) = (tt, tt)

-- a log that grew by nothing
pub grown_none : (k : LogState) → k ≡ grown k []
grown_none k = ap (λ (l : List Entry). record k { entries = l }) (sym (append-nil k.entries))

pub all_results_more : (block : List Entry) (e : Entry) → AllResults block → is_result e ≡ true
    → AllResults (block ++ e ∷ [])
all_results_more [] e all is = (is, tt)
all_results_more (x ∷ block) e all is = (all.0, all_results_more block e all.1 is)

-- a session that begins
pub session_first : (s : QueueState) (setup : Setup) (room gone : ℕ) (keeps : Bool) → 1 ≤ room → IsSetUp setup s
    → SessionInvariant s (record {
      opening = opened setup;
      entries = [];
      room = room;
      gone = gone;
      keeps = keeps;
    })
unfolding accepts asks finishes answers collectors awaited is_closed
session_first s setup room gone keeps some is = record {
  after = is;
  room = omega (arith, some);
  in_bound = empty_in_bound (record {
    opening = opened setup;
    entries = [];
    room = room;
    gone = gone;
    keeps = keeps;
  }) refl;
}

-- a session whose entries were handed out
pub session_drained : (s : QueueState) (k : LogState) (room : ℕ) → SessionInvariant s k
    → reserved k.opening k.entries ≤ room → SessionInvariant s (drained k room)
session_drained s k room kept fits = record {
  after = kept.after;
  in_bound = record {
    closed_first = λ front back n r fault present is calm.
        kept.in_bound.closed_first front back n r fault present is
        (record { calm = calm.calm; budgeted = calm.budgeted });
    closed_first_in_noise = λ front back n r fault present w is noisy.
        kept.in_bound.closed_first_in_noise front back n r fault present w is
        (record { noisy = noisy.noisy; quick = noisy.quick; budgeted = noisy.budgeted });
  };
  room = omega (arith, fits);
}

-- an entry that is no Answer, and then what was due
pub then_due : (old log new : LogState) (e : Entry) (s : QueueState) → FaultNeedsClose old e → log ≡ grown old (e ∷ [])
    → FinishesDue log s new → GrowsBy old (λ block. IsWithResults e block × AnswersInBound old block) new
then_due old log new e s none is due = record {
  block = e ∷ due.results;
  adds = (
    record { results = due.results; whole = refl; each = due.each },
    (none, after_growth old log (e ∷ []) due.results is due.in_bound),
  );
  grows = due.grows ∙ ap (λ k. grown k due.results) is ∙ grown_twice old (e ∷ []) due.results;
}

pub close_adds : (old new : LogState) → is_closed old.opening old.entries ≡ false
    → GrowsBy old (λ block. IsWithResults Close block × AnswersInBound old block) new
    → GrowsBy old (CloseAdds old.opening old.entries) new
close_adds old new open_ is = record { block = is.block; adds = rw open_ is.adds.0; grows = is.grows }

pub deliver_adds : (old new : LogState) (event : LineEvent) → awaited old.entries ≡ true
    → GrowsBy old (λ block. IsWithResults (Came event) block × AnswersInBound old block) new
    → GrowsBy old (DeliverAdds old event (Ok tt)) new
deliver_adds old new event waits is = record {
  block = is.block;
  adds = (waits, is.adds.0, is.adds.1);
  grows = is.grows;
}
