-- The result of a list and what stands after it, and what an open list has.
use Rattle.std.proofs.Common.{◌≡◌, ◌+◌, ◌<◌, Bool, true, false, ◌&&◌, ◌||◌, not, List, [], ◌∷◌, ◌++◌, length, Option}
use Rattle.std.proofs.Common.{Some, None, nat_lt, if◌then◌else◌, refl, sym, ap, ◌∙◌, append_assoc, length-append, arith}
use Rattle.std.proofs.lemmas.List.{append-nil}
use Rattle.std.proofs.lemmas.Bool.Decides.{nat_tests}
use Rattle.std.specs.Prelude.{◌==◌}
use Rattle.rdm_wire.specs.Responses.{code_of_ack}
use Rattle.rdm_wire.specs.declared.response.Response.{Response}
use Rattle.rdm_join.specs.declared.verdict.Judged.{Judged}
use Rattle.rdm_join.specs.declared.verdict.Judged.TheVariants as verdicts
use Rattle.rdm_join.specs.declared.verdict.Judged.TheVariants.{Whole, Part}
use Rattle.rdm_join.specs.declared.status.Status.{Status}
use Rattle.rdm_join.specs.declared.status.Status.TheVariants.{InvalidResponse}
use Rattle.rdm_join.specs.Result.{Joined, result_of, result_after, or_if_open, decides, ended, is_too_long}
use Rattle.rdm_join.specs.Result.{differs_from_first}

or_none : (o : Option Joined) → or_if_open o None ≡ o
or_none None = refl
or_none (Some j) = refl

or_assoc : (a b c : Option Joined) → or_if_open a (or_if_open b c) ≡ or_if_open (or_if_open a b) c
or_assoc None b c = refl
or_assoc (Some j) b c = refl

-- the result of a list is that of its front, or where that is open what the rest decides after it
pub result_after-append : (before vs more : List Judged)
    → result_after before (vs ++ more) ≡ or_if_open (result_after before vs) (result_after (before ++ vs) more)
result_after-append before [] more = ap (λ l. result_after l more) (sym (append-nil before))
result_after-append before (v ∷ vs) more =
    ap (λ o. or_if_open (decides before v) o) (result_after-append (before ++ v ∷ []) vs more)
    ∙ ap (λ l. or_if_open (decides before v) (or_if_open (result_after (before ++ v ∷ []) vs) (result_after l more)))
    (append_assoc before (v ∷ []) vs)
    ∙ or_assoc (decides before v) (result_after (before ++ v ∷ []) vs) (result_after (before ++ v ∷ vs) more)

pub result_of-push : (vs : List Judged) (v : Judged)
    → result_of (vs ++ v ∷ []) ≡ or_if_open (result_of vs) (decides vs v)
result_of-push vs v =
    result_after-append [] vs (v ∷ []) ∙ ap (λ o. or_if_open (result_of vs) o) (or_none (decides vs v))

-- what stands after a result doesn't change it
pub result_of-stays : (vs more : List Judged) (j : Joined) → result_of vs ≡ Some j → result_of (vs ++ more) ≡ Some j
result_of-stays vs more j e = result_after-append [] vs more ∙ ap (λ o. or_if_open o (result_after vs more)) e

-- an open list has parts alone, fewer than there are places

some_none : (j : Joined) → Some j ≡ None → ⊥
some_none j e = cc

open_head : (a b : Option Joined) → or_if_open a b ≡ None → a ≡ None
open_head None b e = refl
open_head (Some j) b e = e

open_rest : (a b : Option Joined) → or_if_open a b ≡ None → b ≡ None
open_rest None b e = e
open_rest (Some j) b e = absurd (some_none j e)

either_ends : (b : Bool) (j k : Joined) → (if b then Some j else Some k) ≡ None → ⊥
either_ends true j k e = some_none j e
either_ends false j k e = some_none k e

goes_on : (b : Bool) (j : Joined) → (if b then Some j else None) ≡ None → b ≡ false
goes_on true j e = absurd (some_none j e)
goes_on false j e = refl

last_false : (a b c : Bool) → (a || b || c) ≡ false → c ≡ false
last_false true b c e = cc
last_false false true c e = cc
last_false false false c e = e

whole_decides : (before : List Judged) (r : Response) → decides before (Whole r) ≡ None → ⊥
whole_decides before r e = either_ends test (ended InvalidResponse) _ e
  where
    test : Bool
    test = differs_from_first before r || (nat_lt 0 (length before) && not (code_of_ack r.ack == 0))
        || is_too_long before r

-- neither a whole reply nor an end leaves a list open
pub whole_ends : (r : Response) (vs : List Judged) → result_of (Whole r ∷ vs) ≡ None → ⊥
whole_ends r vs e = whole_decides [] r (open_head (decides [] (Whole r)) (result_after (Whole r ∷ []) vs) e)

pub end_ends : (s : Status) (vs : List Judged) → result_of (verdicts.Ended s ∷ vs) ≡ None → ⊥
end_ends s vs e = some_none (ended s) e

-- a part that decides nothing isn't in the last place
part_few : (before : List Judged) (r : Response) → decides before (Part r) ≡ None → length before < 512
    → length before + 1 < 512
part_few before r e few =
    let other = differs_from_first before r in
    let long = is_too_long before r in
    let last = (length before + 1) == 512 in
    let not_last : (length before + 1 == 512)
    ≡ false = last_false other long last (goes_on (other || long || last) (ended InvalidResponse) e) in
    grind (arith, nat_tests, not_last)

few_after : (before vs : List Judged) → result_after before vs ≡ None → length before < 512
    → length before + length vs < 512
few_after before [] e few = omega arith
few_after before (Whole r ∷ vs) e few =
    absurd (whole_decides before r (open_head (decides before (Whole r)) (result_after (before ++ Whole r ∷ []) vs) e))
few_after before (verdicts.Ended s ∷ vs) e few = absurd (some_none (ended s) e)
few_after before (Part r ∷ vs) e few =
    let later = result_after (before ++ Part r ∷ []) vs in
    let here : length before + 1 < 512 = part_few before r (open_head (decides before (Part r)) later e) few in
    let size : length (before ++ Part r ∷ []) ≡ length before + 1 = length-append before (Part r ∷ []) in
    let after = few_after (before ++ Part r ∷ []) vs (open_rest (decides before (Part r)) later e) (omega arith) in
    omega arith

pub few_parts : (vs : List Judged) → result_of vs ≡ None → length vs < 512
few_parts vs e = let few = few_after [] vs e (omega arith) in omega arith
