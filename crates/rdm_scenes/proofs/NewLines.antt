-- A line that SimLine::new makes, by its clauses.
use Rattle.std.proofs.Common.{◌≡◌, ℕ, ◌+◌, List, [], ◌∷◌, length, refl, sym, ap, ◌∙◌, subst}
use Rattle.std.specs.Prelude.{◌==◌}
use Rattle.std.specs.List.{AllByRecursion}
use Rattle.std.specs.List.Sorted.{IsPermutation}
use Rattle.std.proofs.lemmas.List.Sorted.{list_any-IsPermutation, length_permutation}
use Rattle.rdm_line.specs.Scenes.{Stays}
use Rattle.rdm_line.specs.Sim.{SimState}
use Rattle.rdm_line.specs.SimSteps.{NoFiveSuccessive}
use Rattle.rdm_line.specs.declared.scene.Scene.{Scene}
use Rattle.rdm_scenes.specs.Scenes.{IsNewLine, IsLossyScene, IsStayingScene, IsCalmScene}

few_permuted : (xs ys : List ℕ) → IsPermutation xs ys → NoFiveSuccessive xs → NoFiveSuccessive ys
few_permuted xs ys same few i all = few i (λ j lt. list_any-IsPermutation (λ v. (i + j) == v) xs ys same ∙ all j lt)

none_permuted : (xs ys : List ℕ) → IsPermutation xs ys → xs ≡ [] → ys ≡ []
none_permuted xs [] same none = refl
none_permuted xs (y ∷ ys) same none = let long = length_permutation xs (y ∷ ys) same ∙ ap length none in cc

pub new_lossy : (from : Scene) (s : SimState) → IsNewLine from s → NoFiveSuccessive from.losses.items → IsLossyScene s
new_lossy from s new few = record {
  scene = new.scene;
  few_losses = few_permuted from.losses.items s.losses new.losses few;
}

pub new_staying : (from : Scene) (s : SimState) → IsNewLine from s → NoFiveSuccessive from.losses.items
    → AllByRecursion Stays from.devices → IsStayingScene s
new_staying from s new few stay = record {
  lossy = new_lossy from s new few;
  stay = subst (AllByRecursion Stays) (sym new.devices) stay;
}

pub new_calm : (from : Scene) (s : SimState) → IsNewLine from s → NoFiveSuccessive from.losses.items
    → AllByRecursion Stays from.devices → from.fails.items ≡ [] → IsCalmScene s
new_calm from s new few stay none = record {
  staying = new_staying from s new few stay;
  no_fails = none_permuted from.fails.items s.fails new.fails none;
}
