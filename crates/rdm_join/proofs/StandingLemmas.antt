-- Where a joiner stands after one more verdict.
use Rattle.std.proofs.Common.{◌≡◌, ◌⊎◌, inl, inr, ℕ, suc, ◌+◌, ◌<◌, ◌≤◌, Bool, true, false, ◌&&◌, ◌||◌, not, List, []}
use Rattle.std.proofs.Common.{◌∷◌, ◌++◌, length, Option, Some, None, Result, Ok, Err, IsOk, OnOk, is_none, nat_lt, ◌↔◌}
use Rattle.std.proofs.Common.{if◌then◌else◌, refl, sym, ap, ◌∙◌, subst, length-append, arith}
use Rattle.std.proofs.lemmas.List.{append-nil}
use Rattle.std.proofs.Math.Bool.{or-false, or-true}
use Rattle.std.proofs.lemmas.Bool.Decides.{nat_tests}
use Rattle.std.proofs.lemmas.Bool.{lt-ltb, le-ltb}
use Rattle.std.proofs.lemmas.Grind.{flat_map-append}
use Rattle.std.specs.Prelude.{◌==◌}
use Rattle.std.specs.Result.{is_err}
use Rattle.rdm_wire.specs.Responses.{code_of_ack}
use Rattle.rdm_wire.specs.declared.response.Response.{Response}
use Rattle.rdm_join.specs.declared.verdict.Judged.{Judged}
use Rattle.rdm_join.specs.declared.verdict.Judged.TheVariants as verdicts
use Rattle.rdm_join.specs.declared.verdict.Judged.TheVariants.{Whole, Part}
use Rattle.rdm_join.specs.declared.status.Status.{Status}
use Rattle.rdm_join.specs.declared.status.Status.TheVariants.{Completed, InvalidResponse}
use Rattle.rdm_join.specs.declared.joiner.ReplyHead.{ReplyHead}
use Rattle.rdm_join.specs.declared.joiner.Stage.{Stage}
use Rattle.rdm_join.specs.declared.joiner.Stage.TheVariants.{Waiting, Joining, Ended}
use Rattle.rdm_join.specs.declared.joiner.Step.TheVariants.{More, Done}
use Rattle.rdm_join.specs.Result.{Joined, result_of, or_if_open, decides, ended, joined_data, data_of, head_of, differs}
use Rattle.rdm_join.specs.Result.{is_too_long}
use Rattle.rdm_join.proofs.ResultLemmas.{result_of-push, whole_ends, end_ends, few_parts}
use Rattle.rdm_join.specs.JoinerStanding.{JoinerStanding, head_of_standing, IsOpen, IsOpenStage, step_of}
use Rattle.rdm_join.specs.body.Standing.{StandsAt, JoinerMoves, standing_at, stage_of_parts, ended_standing}
use Rattle.rdm_join.specs.body.Standing.{stage_with_part, allows_whole}

standing_with : (vs : List Judged) (s : JoinerStanding) (o : Option Joined) → StandsAt vs s → result_of vs ≡ o
    → s ≡ standing_at o vs
standing_with vs s o at e = at ∙ ap (λ p. standing_at p vs) e

pub open_at : (vs : List Judged) (s : JoinerStanding) → StandsAt vs s → IsOpen s → (result_of vs ≡ None)
    × (s ≡ standing_at None vs)
open_at vs s at is_open = by_result (result_of vs) refl at
  where
    by_result : (o : Option Joined) → result_of vs ≡ o → s ≡ standing_at o vs → (result_of vs ≡ None)
        × (s ≡ standing_at None vs)
    by_result None e h = (e, h)
    by_result (Some j) e h = absurd (subst IsOpen h is_open)

-- a joiner stands open exactly when the verdicts have no result, and else at their result
parts_are_open : (vs : List Judged) → IsOpenStage (stage_of_parts vs)
parts_are_open [] = tt
parts_are_open (Part r ∷ vs) = tt
parts_are_open (Whole r ∷ vs) = tt
parts_are_open (verdicts.Ended s ∷ vs) = tt

pub open_exactly : (vs : List Judged) (s : JoinerStanding) → StandsAt vs s → IsOpen s ↔ (result_of vs ≡ None)
open_exactly vs s at = (
  (λ is_open. (open_at vs s at is_open).0),
  (λ none. subst IsOpen (sym (standing_with vs s None at none)) (parts_are_open vs)),
)

pub head_at_result : (vs : List Judged) (s : JoinerStanding) (j : Joined) → StandsAt vs s → result_of vs ≡ Some j
    → head_of_standing s ≡ j.head
head_at_result vs s j at e = ap head_of_standing (standing_with vs s (Some j) at e)

pub data_at_result : (vs : List Judged) (s : JoinerStanding) (j : Joined) → StandsAt vs s → result_of vs ≡ Some j
    → s.data_ ≡ j.data_
data_at_result vs s j at e = ap (λ t. t.data_) (standing_with vs s (Some j) at e)

-- a joiner goes on
pub moves_on : (old : JoinerStanding) (v : Judged) (o : Option Joined) (new : JoinerStanding) → IsOpen old
    → ((vs : List Judged) → result_of vs ≡ None → old ≡ standing_at None vs → (decides vs v ≡ o)
    × (new ≡ standing_at o (vs ++ v ∷ [])))
    → ((step_of o ≡ More) ↔ IsOpen new)
    → JoinerMoves old v (step_of o) new
moves_on old v o new is_open moved still = record {
  more = still;
  stands = λ vs at.
      let here = open_at vs old at is_open in
      let m = moved vs here.0 here.1 in
      m.1 ∙ ap (λ p. standing_at p (vs ++ v ∷ [])) (sym (pushed vs here.0 m.0));
  step = λ vs at.
      let here = open_at vs old at is_open in
      ap step_of (sym (pushed vs here.0 (moved vs here.0 here.1).0));
}
  where
    pushed : (vs : List Judged) → result_of vs ≡ None → decides vs v ≡ o → result_of (vs ++ v ∷ []) ≡ o
    pushed vs e d = result_of-push vs v ∙ ap (λ p. or_if_open p (decides vs v)) e ∙ d

-- whether a reply's data has room, as a test and as facts
abbrev is_long : JoinerStanding → Response → Bool
is_long s r = nat_lt 65535 (length s.data_ + length r.param.items)

abbrev pub HasRoom : JoinerStanding → Response → Type 0
HasRoom s r = length s.data_ + length r.param.items ≤ 65535

abbrev pub HasNoRoom : JoinerStanding → Response → Type 0
HasNoRoom s r = 65535 < length s.data_ + length r.param.items

not_long : (s : JoinerStanding) (r : Response) → HasRoom s r → is_long s r ≡ false
not_long s r fits = le-ltb 65535 (length s.data_ + length r.param.items) fits

long : (s : JoinerStanding) (r : Response) → HasNoRoom s r → is_long s r ≡ true
long s r over = lt-ltb 65535 (length s.data_ + length r.param.items) over

-- what decides after an open list, by where a joiner stands

abbrev whole_decided : JoinerStanding → Response → Option Joined
whole_decided s r =
    if not (allows_whole s.stage (head_of r)) || is_long s r then Some (ended InvalidResponse)
    else Some (record { status = Completed; data_ = s.data_ ++ r.param.items; head = Some (head_of r) })

abbrev part_decided : JoinerStanding → Response → Option Joined
part_decided s r =
    if is_none (stage_with_part s.stage (head_of r)) || is_long s r then Some (ended InvalidResponse) else None

whole_test : (d acked long : Bool) → (d || not acked || long) ≡ (not (not d && acked) || long)
whole_test true acked long = refl
whole_test false true long = refl
whole_test false false long = refl

whole_by_standing : (vs : List Judged) (r : Response) → result_of vs ≡ None
    → decides vs (Whole r) ≡ whole_decided (standing_at None vs) r
whole_by_standing [] r e = refl
whole_by_standing (Part p ∷ vs) r e =
    let other = differs (head_of p) (head_of r) in
    rw (
      lt-ltb 0 (suc (length vs)) (omega arith),
      whole_test other (code_of_ack r.ack == 0) (is_too_long (Part p ∷ vs) r),
    ) refl
whole_by_standing (Whole p ∷ vs) r e = absurd (whole_ends p vs e)
whole_by_standing (verdicts.Ended s ∷ vs) r e = absurd (end_ends s vs e)

part_test : (d long more : Bool) (stage : Stage)
    → (d || long || not more) ≡ (is_none (if not d && more then Some stage else None) || long)
part_test true long more stage = refl
part_test false true true stage = refl
part_test false true false stage = refl
part_test false false true stage = refl
part_test false false false stage = refl

last_test : (n : ℕ) → n < 512 → (n + 1 == 512) ≡ not (nat_lt (n + 1) 512)
last_test n few = grind (arith, nat_tests)

part_by_standing : (vs : List Judged) (r : Response) → result_of vs ≡ None
    → decides vs (Part r) ≡ part_decided (standing_at None vs) r
part_by_standing [] r e = rw or-false refl
part_by_standing (Part p ∷ vs) r e =
    let few : suc (length vs) < 512 = few_parts (Part p ∷ vs) e in
    let size : length vs + 1 ≡ suc (length vs) = omega arith in
    let other = differs (head_of p) (head_of r) in
    let has_capacity = nat_lt (suc (length vs) + 1) 512 in
    let tests = part_test other (is_too_long (Part p ∷ vs) r) has_capacity (Joining (head_of p) (suc (length vs) + 1))
    in
    rw (size, last_test (suc (length vs)) few, tests) refl
part_by_standing (Whole p ∷ vs) r e = absurd (whole_ends p vs e)
part_by_standing (verdicts.Ended s ∷ vs) r e = absurd (end_ends s vs e)

-- the stage and the data after one more part
from_some : (b : Bool) (x y : Stage) → (if b then Some x else None) ≡ Some y → x ≡ y
from_some true x y e = cc
from_some false x y e = cc

open_with_part : (old : Stage) (head : ReplyHead) (new : Stage) → stage_with_part old head ≡ Some new → IsOpenStage new
open_with_part Waiting head new h = let same : Joining head 1 ≡ new = cc in subst IsOpenStage same tt
open_with_part (Joining first parts) head new h =
    subst IsOpenStage (from_some (not (differs first head) && nat_lt (parts + 1) 512) (Joining first (parts + 1)) new h)
    tt
open_with_part (Ended last) head new h = cc

stage_of_more : (vs : List Judged) (r : Response) (stage : Stage) → result_of vs ≡ None
    → stage_with_part (stage_of_parts vs) (head_of r) ≡ Some stage
    → stage ≡ stage_of_parts (vs ++ Part r ∷ [])
stage_of_more [] r stage e h = cc
stage_of_more (Part p ∷ vs) r stage e h =
    let size : length vs + 1 + 1 ≡ length (vs ++ Part r ∷ []) + 1 = omega (arith, length-append vs (Part r ∷ [])) in
    let allowed = not (differs (head_of p) (head_of r)) && nat_lt (length vs + 1 + 1) 512 in
    sym (from_some allowed (Joining (head_of p) (length vs + 1 + 1)) stage h) ∙ ap (λ n. Joining (head_of p) n) size
stage_of_more (Whole p ∷ vs) r stage e h = absurd (whole_ends p vs e)
stage_of_more (verdicts.Ended s ∷ vs) r stage e h = absurd (end_ends s vs e)

data_of_more : (vs : List Judged) (r : Response) → joined_data (vs ++ Part r ∷ []) ≡ joined_data vs ++ r.param.items
data_of_more vs r = flat_map-append data_of vs (Part r ∷ []) ∙ ap (λ l. joined_data vs ++ l) (append-nil r.param.items)

-- what a joiner does, by what its code tests

ends_at : (old : JoinerStanding) (v : Judged) (s : Status) → IsOpen old
    → ((vs : List Judged) → result_of vs ≡ None → old ≡ standing_at None vs → decides vs v ≡ Some (ended s))
    → JoinerMoves old v (Done s) ended_standing
ends_at old v s is_open decided =
    moves_on old v (Some (ended s)) ended_standing is_open (λ vs e at. (decided vs e at, refl))
    ((λ h. absurd (done_more h)), (λ h. absurd h))
  where
    done_more : Done s ≡ More → ⊥
    done_more h = cc

pub ended_moves : (old : JoinerStanding) (s : Status) → IsOpen old
    → JoinerMoves old (verdicts.Ended s) (Done s) ended_standing
ended_moves old s is_open = ends_at old (verdicts.Ended s) s is_open (λ vs e at. refl)

pub whole_refused : (old : JoinerStanding) (r : Response) → IsOpen old
    → (allows_whole old.stage (head_of r) ≡ false) ⊎ HasNoRoom old r
    → JoinerMoves old (Whole r) (Done InvalidResponse) ended_standing
whole_refused old r is_open why =
    ends_at old (Whole r) InvalidResponse is_open
    (λ vs e at. whole_by_standing vs r e ∙ ap (λ s. whole_decided s r) (sym at) ∙ refused why)
  where
    refused : (allows_whole old.stage (head_of r) ≡ false) ⊎ HasNoRoom old r
        → whole_decided old r ≡ Some (ended InvalidResponse)
    refused (inl no_whole) = rw no_whole refl
    refused (inr too_long) = rw (long old r too_long, or-true) refl

pub whole_joined : (old : JoinerStanding) (r : Response) → IsOpen old → allows_whole old.stage (head_of r) ≡ true
    → HasRoom old r
    → JoinerMoves old (Whole r) (Done Completed) (record {
      stage = Ended (Some (head_of r));
      data_ = old.data_ ++ r.param.items;
    })
whole_joined old r is_open allowed fits =
    moves_on old (Whole r)
    (Some (record { status = Completed; data_ = old.data_ ++ r.param.items; head = Some (head_of r) })) _ is_open
    (λ vs e at. (whole_by_standing vs r e ∙ ap (λ s. whole_decided s r) (sym at) ∙ is_joined, refl))
    ((λ h. absurd (done_more h)), (λ h. absurd h))
  where
    done_more : Done Completed ≡ More → ⊥
    done_more h = cc

    is_joined : whole_decided old r ≡ Some (record {
      status = Completed;
      data_ = old.data_ ++ r.param.items;
      head = Some (head_of r);
    })
    is_joined = rw (allowed, not_long old r fits) refl

pub part_refused : (old : JoinerStanding) (r : Response) → IsOpen old
    → (stage_with_part old.stage (head_of r) ≡ None) ⊎ HasNoRoom old r
    → JoinerMoves old (Part r) (Done InvalidResponse) ended_standing
part_refused old r is_open why =
    ends_at old (Part r) InvalidResponse is_open
    (λ vs e at. part_by_standing vs r e ∙ ap (λ s. part_decided s r) (sym at) ∙ refused why)
  where
    refused : (stage_with_part old.stage (head_of r) ≡ None) ⊎ HasNoRoom old r
        → part_decided old r ≡ Some (ended InvalidResponse)
    refused (inl no_stage) = rw no_stage refl
    refused (inr too_long) = rw (long old r too_long, or-true) refl

pub part_joined : (old : JoinerStanding) (r : Response) (stage : Stage) → IsOpen old
    → stage_with_part old.stage (head_of r) ≡ Some stage → HasRoom old r
    → JoinerMoves old (Part r) More (record { stage = stage; data_ = old.data_ ++ r.param.items })
part_joined old r stage is_open allowed fits =
    moves_on old (Part r) None (record { stage = stage; data_ = old.data_ ++ r.param.items }) is_open
    (λ vs e at. (part_by_standing vs r e ∙ ap (λ s. part_decided s r) (sym at) ∙ is_joined, stands vs e at))
    ((λ h. open_with_part old.stage (head_of r) stage allowed), (λ h. refl))
  where
    is_joined : part_decided old r ≡ None
    is_joined = rw (allowed, not_long old r fits) refl

    stands : (vs : List Judged) → result_of vs ≡ None → old ≡ standing_at None vs
        → record { stage = stage; data_ = old.data_ ++ r.param.items } ≡ standing_at None (vs ++ Part r ∷ [])
    stands vs e at =
        let same_stage : stage
        ≡ stage_of_parts (vs ++ Part r ∷ []) =
        stage_of_more vs r stage e (ap (λ s. stage_with_part s.stage (head_of r)) (sym at) ∙ allowed) in
        let same_data : old.data_ ++ r.param.items
        ≡ joined_data (vs ++ Part r ∷ []) = ap (λ s. s.data_ ++ r.param.items) at ∙ sym (data_of_more vs r) in
        cc

-- what an attempt to join says of the room

pub no_room : {T E : Type 0} → (r : Result T E) (n most : ℕ) → (IsOk r ↔ (n ≤ most)) → is_err r ≡ true → most < n
no_room (Ok x) n most fits e = cc
no_room (Err y) n most fits e = let over : n ≤ most → ⊥ = λ h. not_ok (fits.1 h) in omega arith
  where
    not_ok : false ≡ true → ⊥
    not_ok h = cc

pub room : {T E : Type 0} → (r : Result T E) (n most : ℕ) → (IsOk r ↔ (n ≤ most)) → is_err r ≡ false → n ≤ most
room (Ok x) n most fits e = fits.0 refl
room (Err y) n most fits e = cc

pub joined_items : {T E : Type 0} → (r : Result T E) (P : Type 0) → OnOk r P → is_err r ≡ false → P
joined_items (Ok x) P h e = h
joined_items (Err y) P h e = cc
