-- The devices that answer a branch, counted one after another.
use Rattle.std.proofs.Common.{◌≡◌, ℕ, zero, suc, ◌+◌, ◌<◌, ◌≤◌, fold, arith, Bool, true, false, cond, List, [], ◌∷◌}
use Rattle.std.proofs.Common.{◌++◌, length, take, map, get_or, sym, ap, ◌∙◌, append-nil, length-append}
use Rattle.std.specs.Prelude.{filter}
use Rattle.std.proofs.lemmas.List.{map-append}
use Rattle.std.proofs.lemmas.List.Elements.{filter_more}
use Rattle.std.proofs.lemmas.List.Sums.{fold_push}
use Rattle.rdm_wire.specs.BranchText.{branch_text}
use Rattle.rdm_line.specs.Overlays.{laid_over, all_laid_over}
use Rattle.rdm_line.specs.Sim.{branch_reply_of}
use Rattle.rdm_line.specs.declared.scene.SceneDevice.{SceneDevice}

-- this many of the first i devices answer, and their replies lie in this order
pub record AreCounted (p : SceneDevice → Bool) (ds : List SceneDevice) (i count : ℕ) (over : List ℕ) : Type 0 where
  pub counts : count ≡ length (filter p (take i ds))
  pub lie : over ≡ all_laid_over (map branch_reply_of (filter p (take i ds)))

pub one_answers : (p : SceneDevice → Bool) (ds : List SceneDevice) (i count : ℕ) (over : List ℕ) (d : SceneDevice)
    → i < length ds → d ≡ get_or ds i d → p d ≡ true
    → AreCounted p ds i count over → AreCounted p ds (i + 1) (count + 1) (laid_over over (branch_reply_of d))
one_answers p ds i count over d lt is answers before = record {
  counts = ap (λ n. n + 1) before.counts ∙ sym (length-append (filter p (take i ds)) (d ∷ [])) ∙ ap length (sym more);
  lie =
      ap (λ l. laid_over l (branch_reply_of d)) before.lie
      ∙ sym (fold_push laid_over [] (map branch_reply_of (filter p (take i ds))) (branch_reply_of d))
      ∙ ap all_laid_over (sym (map-append branch_reply_of (filter p (take i ds)) (d ∷ [])))
      ∙ ap (λ l. all_laid_over (map branch_reply_of l)) (sym more);
}
  where
    more : filter p (take (i + 1) ds) ≡ filter p (take i ds) ++ d ∷ []
    more = filter_more p ds i d lt ∙ ap (λ e. filter p (take i ds) ++ cond (p e) (e ∷ []) []) (sym is)
        ∙ ap (λ t. filter p (take i ds) ++ cond t (d ∷ []) []) answers

pub one_keeps_silent : (p : SceneDevice → Bool) (ds : List SceneDevice) (i count : ℕ) (over : List ℕ) (d : SceneDevice)
    → i < length ds → d ≡ get_or ds i d → p d ≡ false
    → AreCounted p ds i count over → AreCounted p ds (i + 1) count over
one_keeps_silent p ds i count over d lt is silent before = record {
  counts = before.counts ∙ ap length (sym more);
  lie = before.lie ∙ ap (λ l. all_laid_over (map branch_reply_of l)) (sym more);
}
  where
    more : filter p (take (i + 1) ds) ≡ filter p (take i ds)
    more = filter_more p ds i d lt ∙ ap (λ e. filter p (take i ds) ++ cond (p e) (e ∷ []) []) (sym is)
        ∙ ap (λ t. filter p (take i ds) ++ cond t (d ∷ []) []) silent ∙ append-nil (filter p (take i ds))

-- the replies of some devices aren't silent
laid_over-longer : (xs ys : List ℕ) → length xs ≤ length (laid_over xs ys)
laid_over-longer [] ys = omega arith
laid_over-longer (x ∷ xs) [] = omega arith
laid_over-longer (x ∷ xs) (y ∷ ys) =
    let rest : length xs ≤ length (laid_over xs ys) = laid_over-longer xs ys in omega arith

fold-longer : (xs : List ℕ) (replies : List (List ℕ)) → length xs ≤ length (fold laid_over xs replies)
fold-longer xs [] = omega arith
fold-longer xs (r ∷ rs) =
    let one : length xs ≤ length (laid_over xs r) = laid_over-longer xs r in
    let rest : length (laid_over xs r) ≤ length (fold laid_over (laid_over xs r) rs) = fold-longer (laid_over xs r)
    rs in
    omega arith

pub reply_some : (u preamble : ℕ) → 0 < length (branch_text u preamble)
reply_some u zero = omega arith
reply_some u (suc n) = omega arith

pub replies_some : (ds : List SceneDevice) → 0 < length ds → 0 < length (all_laid_over (map branch_reply_of ds))
replies_some [] h = absurd (omega arith)
replies_some (d ∷ ds) h =
    let one : 0 < length (branch_reply_of d) = reply_some d.device.uid d.preamble in
    let rest : length (branch_reply_of d) ≤ length
    (fold laid_over (branch_reply_of d) (map branch_reply_of ds)) =
    fold-longer (branch_reply_of d) (map branch_reply_of ds) in
    omega arith
