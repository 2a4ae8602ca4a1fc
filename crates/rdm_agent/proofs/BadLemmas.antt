-- UIDs that were answered badly when they were asked alone.
use Rattle.rdm_agent.proofs.Common.{ℕ, List, [], ◌∷◌, ◌++◌, not, ◌==◌, ap, ◌∙◌, append_assoc, cond_both}
use Rattle.rdm_agent.proofs.Common.{AllByRecursion, Seen}
use Rattle.rdm_agent.specs.Apart.{without}
use Rattle.rdm_agent.specs.Cause.{WasBad}

-- each of these UIDs was
abbrev pub WereBad : List ℕ → List Seen → Type 0
WereBad us x = AllByRecursion (λ u. WasBad u x) us

-- after one more exchange, too
pub WereBad-push : (us : List ℕ) (x : List Seen) (e : Seen) → WereBad us x → WereBad us (x ++ e ∷ [])
WereBad-push [] x e all = tt
WereBad-push (u ∷ us) x e all = (more all.0, WereBad-push us x e all.1)
  where
    more : WasBad u x → WasBad u (x ++ e ∷ [])
    more w = record {
      before = w.before;
      after = w.after ++ e ∷ [];
      whole = ap (λ l. l ++ e ∷ []) w.whole ∙ append_assoc w.before w.after (e ∷ []);
      often = w.often;
    }

-- and without this one
pub WereBad-without : (v : ℕ) (us : List ℕ) (x : List Seen) → WereBad us x → WereBad (without v us) x
WereBad-without v [] x all = tt
WereBad-without v (u ∷ us) x all = cond_both (not (u == v)) (u ∷ without v us) (without v us) (λ l. WereBad l x)
    (λ other. (all.0, WereBad-without v us x all.1)) (λ same. WereBad-without v us x all.1)
