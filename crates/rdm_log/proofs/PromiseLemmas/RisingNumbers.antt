-- The numbers of the accepted requests rise, and so do those of the discoveries.
use Rattle.rdm_log.proofs.Common.{◌≡◌, ℕ, zero, suc, ◌+◌, ◌<◌, ◌≤◌, List, [], ◌∷◌, length, Some, slice_get, refl, ap}
use Rattle.rdm_log.proofs.Common.{arith, length-append, Ok, length_push, none-some, same_Some, Entry, Accept, Ask}
use Rattle.rdm_log.proofs.Common.{Event, accepts, asks, next_request, next_ask, LogState, grown, Adds, IsAnswered}
use Rattle.rdm_log.proofs.Common.{Explains}
use Rattle.rdm_log.specs.declared.event.Event.TheVariants as events
use Rattle.rdm_log.specs.declared.event.Answer.{Answer}
use Rattle.rdm_log.specs.declared.event.Answer.TheVariants as answers
use Rattle.rdm_log.proofs.LogLemmas.PushLemmas.{accepts-append, accepts-push, asks-append, asks-push}
use Rattle.rdm_log.specs.declared.work.Work.TheVariants as works
use Rattle.rdm_log.proofs.PromiseLemmas.BlockLemmas.{work_ok, work_adds}

-- a count that never falls, and that an answer with a number passes by one
record CountsNumbers (next : LogState → ℕ) (gives : ℕ → Answer) : Type 0 where
  grows : (k : LogState) (block : List Entry) → next k ≤ next (grown k block)
  passes : (k : LogState) (e : Event) (n : ℕ) (block : List Entry) → Adds k e (gives n) block → (n ≡ next k)
      × (next (grown k block) ≡ n + 1)

next_grows : (next : LogState → ℕ) (gives : ℕ → Answer) → CountsNumbers next gives
    → (old new : LogState) (e : Event) (r : Answer) → IsAnswered old e r new → next old ≤ next new
next_grows next gives counts old new e r here = rw here.grows (counts.grows old here.block)

later_number : (next : LogState → ℕ) (gives : ℕ → Answer) → CountsNumbers next gives
    → (old : LogState) (es : List Event) (rs : List Answer) (new : LogState) → Explains old es rs new → (j m : ℕ)
    → slice_get rs j ≡ Some (gives m) → next old ≤ m
later_number next gives counts old es [] new explains j m at = absurd (none-some (gives m) at)
later_number next gives counts old [] (r ∷ rs) new explains j m at = absurd explains
later_number next gives counts old (e ∷ es) (r ∷ rs) new explains zero m at =
    let here = rw (same_Some r (gives m) at) at explains.1 in
    omega (arith, (counts.passes old e m here.block here.adds).0)
later_number next gives counts old (e ∷ es) (r ∷ rs) new explains (suc j) m at =
    omega (
      arith,
      next_grows next gives counts old explains.0 e r explains.1,
      later_number next gives counts explains.0 es rs new explains.2 j m at,
    )

rise : (next : LogState → ℕ) (gives : ℕ → Answer) → CountsNumbers next gives
    → (old : LogState) (es : List Event) (rs : List Answer) (new : LogState) → Explains old es rs new → (i j n m : ℕ)
    → i < j → slice_get rs i ≡ Some (gives n) → slice_get rs j ≡ Some (gives m) → n < m
rise next gives counts old es [] new explains i j n m before at_n at_m = absurd (none-some (gives n) at_n)
rise next gives counts old [] (r ∷ rs) new explains i j n m before at_n at_m = absurd explains
rise next gives counts old (e ∷ es) (r ∷ rs) new explains i zero n m before at_n at_m = absurd (omega arith)
rise next gives counts old (e ∷ es) (r ∷ rs) new explains zero (suc j) n m before at_n at_m =
    let here = rw (same_Some r (gives n) at_n) at explains.1 in
    omega (
      arith,
      (counts.passes old e n here.block here.adds).1,
      ap next here.grows,
      later_number next gives counts explains.0 es rs new explains.2 j m at_m,
    )
rise next gives counts old (e ∷ es) (r ∷ rs) new explains (suc i) (suc j) n m before at_n at_m =
    rise next gives counts explains.0 es rs new explains.2 i j n m (omega arith) at_n at_m

-- requests
abbrev next_number : LogState → ℕ
next_number k = next_request k.opening k.entries

abbrev accepts_as : ℕ → Answer
accepts_as n = answers.Submit (Ok n)

accepted_number : (k : LogState) (e : Event) (n : ℕ) (block : List Entry) → Adds k e (accepts_as n) block
    → (n ≡ next_number k) × (next_number (grown k block) ≡ n + 1)
accepted_number k (events.Submit c request) n block adds =
    let work = works.Submit request in
    let own = work_ok k c work n block (work_adds k c work (Ok n) block adds) in (
      own.1,
      rw (
        own.2,
        accepts-push k.entries (Accept c n request),
      )
          (omega (
            arith,
            own.1,
            length_push (accepts k.entries) (record {
              client = c.0;
              number = n;
              request = request;
            }),
          )),
    )
accepted_number k _ n block adds = absurd adds

requests_count : CountsNumbers next_number accepts_as
requests_count = record {
  grows = λ k block. omega (
    arith,
    ap length (accepts-append k.entries block),
    length-append (accepts k.entries) (accepts block),
  );
  passes = accepted_number;
}

pub numbers_rise : (old : LogState) (es : List Event) (rs : List Answer) (new : LogState) → Explains old es rs new
    → (i j n m : ℕ) → i < j → slice_get rs i ≡ Some (answers.Submit (Ok n))
    → slice_get rs j ≡ Some (answers.Submit (Ok m)) → n < m
numbers_rise = rise next_number accepts_as requests_count

-- discoveries
abbrev next_discovery : LogState → ℕ
next_discovery k = next_ask k.opening k.entries

abbrev asks_as : ℕ → Answer
asks_as n = answers.Discover (Ok n)

asked_number : (k : LogState) (e : Event) (n : ℕ) (block : List Entry) → Adds k e (asks_as n) block
    → (n ≡ next_discovery k) × (next_discovery (grown k block) ≡ n + 1)
asked_number k (events.Discover c kind) n block adds =
    let own = work_ok k c (works.Discover kind) n block adds in (
      own.1,
      rw (own.2, asks-push k.entries (Ask c n kind))
          (omega (arith, own.1, length_push (asks k.entries) (record { client = c.0; number = n; kind = kind }))),
    )
asked_number k _ n block adds = absurd adds

discoveries_count : CountsNumbers next_discovery asks_as
discoveries_count = record {
  grows = λ k block. omega (
    arith,
    ap length (asks-append k.entries block),
    length-append (asks k.entries) (asks block),
  );
  passes = asked_number;
}

pub asks_rise : (old : LogState) (es : List Event) (rs : List Answer) (new : LogState) → Explains old es rs new
    → (i j n m : ℕ) → i < j → slice_get rs i ≡ Some (answers.Discover (Ok n))
    → slice_get rs j ≡ Some (answers.Discover (Ok m)) → n < m
asks_rise = rise next_discovery asks_as discoveries_count
