-- The known UIDs of a discovery on a line, read one after another.
use Rattle.std.proofs.Common.{◌≡◌, ℕ, zero, suc, ◌+◌, ◌<◌, ◌≤◌, Bool, false, List, [], ◌∷◌, ◌++◌, length}
use Rattle.std.proofs.Common.{take, get_or, Result, refl, sym, ap, ◌∙◌, subst, arith, length-append}
use Rattle.std.specs.Prelude.{OnOk, IsErr}
use Rattle.std.specs.Borrow.{Bor}
use Rattle.std.proofs.lemmas.List.{take_all, take_more}
use Rattle.rdm_wire.specs.Uid.{has, with_uid, set_of}
use Rattle.rdm_wire.specs.declared.uid_set.SetFull.{SetFull}
use Rattle.rdm_line.proofs.SoundLemmas.{put_in}
use Rattle.rdm_files.proofs.KnownForms.{few_in_set}
use Rattle.rdm_agent.proofs.Sets.{set_of-push}
use Rattle.rdm_port.specs.LineOutcome.{SpellsDevice, SpellDevices}

-- the UIDs that the first i texts spell, and their set
pub record SpelledSoFar (texts : List (Bor (List ℕ))) (i : ℕ) (known : List ℕ) : Type 0 where
  pub listed : List ℕ
  pub spelled : SpellDevices (take i texts) listed
  pub set : known ≡ set_of listed
  pub many : length listed ≡ i

pub none_spelled : (texts : List (Bor (List ℕ))) (known : List ℕ) → known ≡ [] → SpelledSoFar texts 0 known
none_spelled texts known none = record { listed = []; spelled = tt; set = none; many = refl }

-- one more text
spelled_more : (texts : List (Bor (List ℕ))) (us : List ℕ) (text : Bor (List ℕ)) (u : ℕ) → SpellDevices texts us
    → SpellsDevice text.now u → SpellDevices (texts ++ text ∷ []) (us ++ u ∷ [])
spelled_more [] [] text u all here = (here, tt)
spelled_more [] (v ∷ us) text u all here = absurd all
spelled_more (t ∷ texts) [] text u all here = absurd all
spelled_more (t ∷ texts) (v ∷ us) text u all here = (all.0, spelled_more texts us text u all.1 here)

spelled_next : (texts : List (Bor (List ℕ))) (us : List ℕ) (i : ℕ) (d : Bor (List ℕ)) (u : ℕ) → i < length texts
    → SpellDevices (take i texts) us → SpellsDevice (get_or texts i d).now u
    → SpellDevices (take (i + 1) texts) (us ++ u ∷ [])
spelled_next texts us i d u lt all here =
    subst (λ ts. SpellDevices ts (us ++ u ∷ [])) (sym (take_more texts i d lt))
    (spelled_more (take i texts) us (get_or texts i d) u all here)

pub one_spelled : (texts : List (Bor (List ℕ))) (i u : ℕ) (d : Bor (List ℕ)) (old new : List ℕ)
    (r : Result Bool SetFull) → i < length texts → length texts ≤ 1024
    → SpelledSoFar texts i old → SpellsDevice (get_or texts i d).now u → OnOk r (new ≡ with_uid u old)
    → (IsErr r → (has old u ≡ false) × (length old ≡ 1024)) → SpelledSoFar texts (i + 1) new
one_spelled texts i u d old new r lt few k own ok err = record {
  listed = k.listed ++ u ∷ [];
  spelled = spelled_next texts k.listed i d u lt k.spelled own;
  set = put_in u old new r ok err (λ absent full. room full) ∙ ap (with_uid u) k.set ∙ sym (set_of-push k.listed u);
  many = length-append k.listed (u ∷ []) ∙ ap (λ n. n + 1) k.many;
}
  where
    room : length old ≡ 1024 → ⊥
    room full = let most = few_in_set k.listed in let same = ap length k.set in
        omega (arith, full, most, same, k.many, lt, few)

pub all_spelled : (texts : List (Bor (List ℕ))) (i : ℕ) (known : List ℕ) → length texts ≡ i → SpelledSoFar texts i known
    → (listed : List ℕ) × SpellDevices texts listed × (known ≡ set_of listed)
all_spelled texts i known all k =
    (k.listed, subst (λ ts. SpellDevices ts k.listed) (take_all i texts (omega (arith, all))) k.spelled, k.set)

-- a text that spells none
pub other_spelled : (texts : List (Bor (List ℕ))) (us : List ℕ) (i : ℕ) (d : Bor (List ℕ)) → i < length texts
    → ((u : ℕ) → SpellsDevice (get_or texts i d).now u → ⊥) → SpellDevices texts us → ⊥
other_spelled [] us i d lt none all = omega (arith, lt)
other_spelled (t ∷ texts) [] i d lt none all = all
other_spelled (t ∷ texts) (u ∷ us) zero d lt none all = none u all.0
other_spelled (t ∷ texts) (u ∷ us) (suc i) d lt none all = other_spelled texts us i d (omega (arith, lt)) none all.1
