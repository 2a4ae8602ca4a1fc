-- Comparing the calls of a session file with those that a log has.
use Rattle.std.proofs.Common.{◌≡◌, ℕ, suc, subst, ◌+◌, ◌<◌, List, [], ◌∷◌, ◌++◌, length, take, get_or, ap, sym}
use Rattle.std.proofs.Common.{◌∙◌, arith}
use Rattle.std.proofs.lemmas.List.{length-take-le, take_more}
use Rattle.rdm_log.specs.declared.entry.Entry.{Entry}
use Rattle.rdm_files.specs.declared.session.client.ClientFile.{ClientFile}
use Rattle.rdm_serving.specs.LoggedCalls.{AllCalled, calls_logged}

called_more : (h : List Entry) (c : ℕ) (cs : List ClientFile) (x : ClientFile) → AllCalled h c cs
    → calls_logged (c + length cs) h ≡ x.calls.items → AllCalled h c (cs ++ x ∷ [])
called_more h c [] x all here = (subst (λ n. calls_logged n h ≡ x.calls.items) (plain c) here, tt)
  where
    plain : (n : ℕ) → n + 0 ≡ n
    plain n = omega arith
called_more h c (y ∷ ys) x all here =
    (all.0, called_more h (c + 1) ys x all.1 (subst (λ n. calls_logged n h ≡ x.calls.items) (later c (length ys)) here))
  where
    later : (n m : ℕ) → n + suc m ≡ (n + 1) + m
    later n m = omega arith

-- one more client
pub called_next : (h : List Entry) (cs : List ClientFile) (i : ℕ) (x : ClientFile) → i < length cs → x ≡ get_or cs i x
    → AllCalled h 0 (take i cs) → calls_logged i h ≡ x.calls.items → AllCalled h 0 (take (i + 1) cs)
called_next h cs i x lt at all here =
    let more = take_more cs i x lt ∙ ap (λ w. take i cs ++ w ∷ []) (sym at) in
    let many : i
    ≡ 0 + length (take i cs) = sym (none_more (length (take i cs)) ∙ length-take-le i cs (omega (arith, lt))) in
    subst (λ xs. AllCalled h 0 xs) (sym more)
    (called_more h 0 (take i cs) x all (subst (λ n. calls_logged n h ≡ x.calls.items) many here))
  where
    none_more : (n : ℕ) → 0 + n ≡ n
    none_more n = omega arith
