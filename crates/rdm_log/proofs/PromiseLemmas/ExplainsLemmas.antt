-- The log before and after each event of a list that a log explains.
use Rattle.rdm_log.proofs.Common.{◌≡◌, ℕ, zero, suc, ◌+◌, List, [], ◌∷◌, ◌++◌, length, drop, Some, slice_get, refl, sym}
use Rattle.rdm_log.proofs.Common.{ap, ◌∙◌, append_assoc, append-nil, arith, Contains, Contains-append_left, none-some}
use Rattle.rdm_log.proofs.Common.{same_Some, EachAfter, Entry, Event, MayFollow, LogState, grown, IsAnswered, Explains}
use Rattle.rdm_log.proofs.Common.{AnsweredAt}
use Rattle.std.proofs.lemmas.List.Elements.{Contains-append_right}
use Rattle.rdm_log.specs.declared.event.Answer.{Answer}
use Rattle.rdm_log.proofs.LogLemmas.Grows.{front}

pub one_answer_each : (old : LogState) (es : List Event) (rs : List Answer) (new : LogState) → Explains old es rs new
    → length rs ≡ length es
one_answer_each old [] [] new is = refl
one_answer_each old (e ∷ es) (r ∷ rs) new is = ap suc (one_answer_each is.0 es rs new is.2)
one_answer_each old [] (r ∷ rs) new is = absurd is
one_answer_each old (e ∷ es) [] new is = absurd is

-- the log grows by blocks
pub grown_twice : (k : LogState) (a b : List Entry) → grown (grown k a) b ≡ grown k (a ++ b)
grown_twice k a b = ap (λ l. record k { entries = l }) (append_assoc k.entries a b)

pub explained_grows : (old : LogState) (es : List Event) (rs : List Answer) (new : LogState) → Explains old es rs new
    → (block : List Entry) × (new ≡ grown old block)
explained_grows old [] [] new is = ([], is ∙ ap (λ l. record old { entries = l }) (sym (append-nil old.entries)))
explained_grows old (e ∷ es) (r ∷ rs) new is =
    let later = explained_grows is.0 es rs new is.2 in
    let here = is.1 in
    (here.block ++ later.0, later.1 ∙ ap (λ k. grown k later.0) here.grows ∙ grown_twice old here.block later.0)
explained_grows old [] (r ∷ rs) new is = absurd is
explained_grows old (e ∷ es) [] new is = absurd is

-- each event was answered somewhere
pub answered_at : (old : LogState) (es : List Event) (rs : List Answer) (new : LogState) → Explains old es rs new
    → (i : ℕ) (e : Event) (r : Answer) → slice_get es i ≡ Some e → slice_get rs i ≡ Some r
    → AnsweredAt old es rs new i e r
answered_at old [] [] new is i e r at_e at_r = absurd (none-some e at_e)
answered_at old (f ∷ es) (s ∷ rs) new is zero e r at_e at_r = record {
  before = old;
  after = is.0;
  earlier = refl;
  here = rw (same_Some f e at_e, same_Some s r at_r) at is.1;
  later = is.2;
}
answered_at old (f ∷ es) (s ∷ rs) new is (suc i) e r at_e at_r =
    let rest = answered_at is.0 es rs new is.2 i e r at_e at_r in
    let next : suc i + 1 ≡ suc (i + 1) = omega arith in
    record {
      before = rest.before;
      after = rest.after;
      earlier = (is.0, is.1, rest.earlier);
      here = rest.here;
      later = rw next rest.later;
    }
answered_at old [] (s ∷ rs) new is i e r at_e at_r = absurd is
answered_at old (f ∷ es) [] new is i e r at_e at_r = absurd is

-- an event's block is in the new log, between what came earlier and what came later
pub record HasBlock (new before : LogState) (block : List Entry) : Type 0 where
  pub back : List Entry
  pub whole : new.entries ≡ (before.entries ++ block) ++ back
  pub same_opening : new.opening ≡ before.opening

pub has_block : (old : LogState) (es : List Event) (rs : List Answer) (new : LogState) (i : ℕ) (e : Event) (r : Answer)
    → (at : AnsweredAt old es rs new i e r) → HasBlock new at.before at.here.block
has_block old es rs new i e r at =
    let later = explained_grows at.after (drop (i + 1) es) (drop (i + 1) rs) new at.later in
    let is : new ≡ grown (grown at.before at.here.block) later.0 = later.1 ∙ ap (λ k. grown k later.0) at.here.grows in
    record { back = later.0; whole = ap (λ k. k.entries) is; same_opening = ap (λ k. k.opening) is }

-- one event more
pub explains_more : (old : LogState) (es : List Event) (rs : List Answer) (mid : LogState) (e : Event) (r : Answer)
    (new : LogState) → Explains old es rs mid → IsAnswered mid e r new → Explains old (es ++ e ∷ []) (rs ++ r ∷ []) new
explains_more old [] [] mid e r new is last = (new, rw is at last, refl)
explains_more old (f ∷ es) (s ∷ rs) mid e r new is last = (is.0, is.1, explains_more is.0 es rs mid e r new is.2 last)
explains_more old [] (s ∷ rs) mid e r new is last = absurd is
explains_more old (f ∷ es) [] mid e r new is last = absurd is

contains_last : {X : Type 0} (xs : List X) (x : X) → Contains (xs ++ x ∷ []) x
contains_last xs x = Contains-append_right xs (x ∷ []) x (0, omega arith, refl)

-- a block is in the new log, and each of its entries may follow those before it
pub block_contained : (new before : LogState) (block : List Entry) (e : Entry) → HasBlock new before block
    → block ≡ e ∷ [] → Contains new.entries e
block_contained new before block e split is =
    rw (split.whole, is) (Contains-append_left (before.entries ++ e ∷ []) split.back e (contains_last before.entries e))

pub block_follows : (new before : LogState) (block : List Entry) (entries : List Entry) → HasBlock new before block
    → block ≡ entries → EachAfter (MayFollow new.opening) new.entries
    → EachAfter (MayFollow new.opening) (before.entries ++ entries)
block_follows new before block entries split is each =
    front new.opening (before.entries ++ entries) split.back (rw (split.whole, is) at each)
