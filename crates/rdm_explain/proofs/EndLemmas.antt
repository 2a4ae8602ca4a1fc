-- How lists of exchanges end.
use Rattle.std.proofs.Common.{ℕ, ◌+◌, ◌-◌, ◌≤◌, List, [], ◌∷◌, ◌++◌, refl, sym, ap, ◌∙◌, subst, take, drop, arith}
use Rattle.std.proofs.Common.{append_assoc, append-nil, length-append, length-drop}
use Rattle.std.specs.List.{AllByRecursion}
use Rattle.std.proofs.lemmas.List.{take-append-drop}
use Rattle.rdm_wire.specs.Honest.{Seen}
use Rattle.rdm_agent.proofs.Members.{last_part}
use Rattle.rdm_explain.specs.Rules.{EndsWith}

pub all_append : {X : Type 0} (P : X → Type 0) (xs ys : List X) → AllByRecursion P xs → AllByRecursion P ys
    → AllByRecursion P (xs ++ ys)
all_append P [] ys a b = b
all_append P (x ∷ xs) ys a b = (a.0, all_append P xs ys a.1 b)

pub ends_none : (P : Seen → Type 0) (x : List Seen) → EndsWith 0 P x
ends_none P x = record { front = x; last = []; whole = sym (append-nil x); many = refl; each = tt }

pub ends_more : (n : ℕ) (P : Seen → Type 0) (x : List Seen) (e : Seen) → EndsWith n P x → P e
    → EndsWith (n + 1) P (x ++ e ∷ [])
ends_more n P x e ends is = record {
  front = ends.front;
  last = ends.last ++ e ∷ [];
  whole = ap (λ l. l ++ e ∷ []) ends.whole ∙ append_assoc ends.front ends.last (e ∷ []);
  many = length-append ends.last (e ∷ []) ∙ ap (λ k. k + 1) ends.many;
  each = all_append P ends.last (e ∷ []) ends.each (is, tt);
}

pub ends_fewer : (n m : ℕ) (P : Seen → Type 0) (x : List Seen) → n ≤ m → EndsWith m P x → EndsWith n P x
ends_fewer n m P x fewer t = record {
  front = t.front ++ take (m - n) t.last;
  last = drop (m - n) t.last;
  whole = t.whole
      ∙ ap (λ l. t.front ++ l) (sym (take-append-drop (m - n) t.last))
      ∙ sym (append_assoc t.front (take (m - n) t.last) (drop (m - n) t.last));
  many = length-drop (m - n) t.last ∙ ap (λ k. k - (m - n)) t.many ∙ omega arith;
  each = last_part P (take (m - n) t.last) (drop (m - n) t.last)
      (subst (λ l. AllByRecursion P l) (sym (take-append-drop (m - n) t.last)) t.each);
}
