-- Known devices of a scene file, one after another.
use Rattle.std.proofs.Common.{◌≡◌, ℕ, suc, ◌+◌, ◌<◌, ◌≤◌, Bool, true, false, cond, List, [], ◌∷◌, ◌++◌, length, take}
use Rattle.std.proofs.Common.{get_or, Some, Result, refl, sym, ap, ◌∙◌, arith, length-append}
use Rattle.std.specs.Prelude.{◌==◌, nat_lt, OnOk, IsErr}
use Rattle.serde_json.specs.Data.{Data}
use Rattle.serde_json.specs.Find.{as_array}
use Rattle.serde_json.specs.View.{view, items_view}
use Rattle.serde_json.specs.declared.value.Value.{Value}
use Rattle.rdm_wire.specs.Uid.{has, with_uid, set_of}
use Rattle.rdm_wire.specs.declared.uid_set.SetFull.{SetFull}
use Rattle.rdm_line.proofs.SoundLemmas.{put_in}
use Rattle.rdm_agent.proofs.Sets.{set_of-push}
use Rattle.rdm_files.specs.Forms.{Each, IsOwnUid}
use Rattle.rdm_files.specs.SceneFiles.{AreKnown}
use Rattle.rdm_files.proofs.FormLemmas.{each_next, list_of, list_many, no_list}

-- the UIDs listed so far, and their set
pub record KnownSoFar (vs : List Value) (i : ℕ) (known : List ℕ) : Type 0 where
  pub listed : List ℕ
  pub each : Each IsOwnUid (items_view (take i vs)) listed
  pub set : known ≡ set_of listed
  pub many : length listed ≡ i

pub none_known : (vs : List Value) (known : List ℕ) → known ≡ [] → KnownSoFar vs 0 known
none_known vs known none = record { listed = []; each = tt; set = none; many = refl }

length-with_uid : (u : ℕ) (us : List ℕ) → length (with_uid u us) ≤ length us + 1
length-with_uid u [] = omega arith
length-with_uid u (v ∷ us) = by_test (nat_lt u v) (u == v) (length-with_uid u us)
  where
    by_test : (s t : Bool) → length (with_uid u us) ≤ length us + 1
        → length (cond s (u ∷ v ∷ us) (cond t (v ∷ us) (v ∷ with_uid u us))) ≤ suc (length us) + 1
    by_test true t rest = omega arith
    by_test false true rest = omega arith
    by_test false false rest = omega (arith, rest)

-- a set has no more elements than its list
pub few_in_set : (us : List ℕ) → length (set_of us) ≤ length us
few_in_set [] = omega arith
few_in_set (u ∷ us) = let rest = few_in_set us in let one = length-with_uid u (set_of us) in omega (arith, rest, one)

pub one_known : (vs : List Value) (i u : ℕ) (v : Value) (old new : List ℕ) (r : Result Bool SetFull) → i < length vs
    → length vs ≤ 1024 → v ≡ get_or vs i v → KnownSoFar vs i old → IsOwnUid (view v) u
    → OnOk r (new ≡ with_uid u old) → (IsErr r → (has old u ≡ false) × (length old ≡ 1024)) → KnownSoFar vs (i + 1) new
one_known vs i u v old new r lt few at k own ok err = record {
  listed = k.listed ++ u ∷ [];
  each = each_next IsOwnUid vs k.listed i v u lt at k.each own;
  set = put_in u old new r ok err (λ absent full. room full) ∙ ap (with_uid u) k.set ∙ sym (set_of-push k.listed u);
  many = length-append k.listed (u ∷ []) ∙ ap (λ n. n + 1) k.many;
}
  where
    room : length old ≡ 1024 → ⊥
    room full = let most = few_in_set k.listed in let same = ap length k.set in
        omega (arith, full, most, same, k.many, lt, few)

pub all_known : (d : Data) (vs : List Value) (i : ℕ) (known : List ℕ) → Some (items_view vs) ≡ as_array d
    → length vs ≡ i → length vs ≤ 1024 → KnownSoFar vs i known → AreKnown d known
all_known d vs i known is all few k = record {
  listed = k.listed;
  list = list_of IsOwnUid 0 1024 d vs i k.listed is all (omega arith) few k.each;
  set = k.set;
}

-- a list that is too long says nothing, and one with another item
pub too_many_known : (d : Data) (vs : List Value) → Some (items_view vs) ≡ as_array d → 1024 < length vs
    → (known : List ℕ) → AreKnown d known → ⊥
too_many_known d vs is long known h =
    let many = list_many IsOwnUid 0 1024 d vs is h.listed h.list in
    let most : length h.listed ≤ 1024 = h.list.at_most in
    omega (arith, many, most, long)

pub other_known : (d : Data) (vs : List Value) (i : ℕ) (v : Value) → Some (items_view vs) ≡ as_array d → i < length vs
    → v ≡ get_or vs i v → ((u : ℕ) → IsOwnUid (view v) u → ⊥) → (known : List ℕ) → AreKnown d known → ⊥
other_known d vs i v is lt at none known h = no_list IsOwnUid 0 1024 d vs i v is lt at none h.listed h.list
