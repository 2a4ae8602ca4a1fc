-- Clients whose calls have all their outcomes, one after another.
use Rattle.std.proofs.Common.{◌≡◌, ℕ, ◌+◌, ◌<◌, ◌++◌, ◌∷◌, [], List, length, take, get_or, sym, ap, ◌∙◌, subst}
use Rattle.std.proofs.lemmas.List.{take_more}
use Rattle.rdm_reports.specs.SessionReport.{IsSettled, AllSettled}
use Rattle.rdm_reports.specs.declared.outcomes.Outcomes.{Outcomes}
use Rattle.rdm_files.specs.declared.session.client.ClientFile.{ClientFile}

settled_more : (cs : List ClientFile) (os : List Outcomes) (c : ClientFile) (o : Outcomes) → AllSettled cs os
    → IsSettled c.calls.items o → AllSettled (cs ++ c ∷ []) (os ++ o ∷ [])
settled_more [] [] c o all here = (here, tt)
settled_more [] (p ∷ os) c o all here = absurd all
settled_more (b ∷ cs) [] c o all here = absurd all
settled_more (b ∷ cs) (p ∷ os) c o all here = (all.0, settled_more cs os c o all.1 here)

-- one more client
pub settled_next : (cs : List ClientFile) (os : List Outcomes) (i : ℕ) (c : ClientFile) (o : Outcomes) → i < length cs
    → i < length os → c ≡ get_or cs i c → o ≡ get_or os i o
    → AllSettled (take i cs) (take i os) → IsSettled c.calls.items o → AllSettled (take (i + 1) cs) (take (i + 1) os)
settled_next cs os i c o lt few at there all here =
    let clients = take_more cs i c lt ∙ ap (λ w. take i cs ++ w ∷ []) (sym at) in
    let outcomes = take_more os i o few ∙ ap (λ w. take i os ++ w ∷ []) (sym there) in
    subst (λ xs. AllSettled xs (take (i + 1) os)) (sym clients)
    (subst (λ ys. AllSettled (take i cs ++ c ∷ []) ys) (sym outcomes)
    (settled_more (take i cs) (take i os) c o all here))
