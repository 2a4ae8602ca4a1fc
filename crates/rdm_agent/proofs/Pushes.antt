-- What a list of exchanges keeps as it grows at its end.
use Rattle.rdm_agent.proofs.Common.{◌≡◌, ℕ, ◌+◌, Bool, true, false, cond, not, one-add, List, [], ◌∷◌, ◌++◌, map, take}
use Rattle.rdm_agent.proofs.Common.{append_assoc, Option, None, Some, refl, sym, ap, ◌∙◌, subst, inl, inr, true≢false}
use Rattle.rdm_agent.proofs.Common.{◌⊎◌, filter_map, replicate, AllByRecursion, before_first, cons_option, has, Asked}
use Rattle.rdm_agent.proofs.Common.{Seen, Unmute, InSuccession, is_branch, IsTried, IsCleared, UNMUTES}
use Rattle.std.specs.List.{position_or_len}
use Rattle.rdm_agent.proofs.Members.{has-put, has-first, put-has, last_part}

-- what holds of each holds of each of the longer list
pub All-push : {X : Type 0} (P : X → Type 0) (xs : List X) (x : X) → AllByRecursion P xs → P x
    → AllByRecursion P (xs ++ x ∷ [])
All-push P [] x all p = (p, tt)
All-push P (y ∷ ys) x all p = (all.0, All-push P ys x all.1 p)

-- what holds of each holds of the one at an index
pub All-at : {X : Type 0} (P : X → Type 0) (xs front back : List X) (x : X) → AllByRecursion P xs
    → xs ≡ front ++ x ∷ back → P x
All-at P xs front back x all whole = (last_part P front (x ∷ back) (subst (λ l. AllByRecursion P l) whole all)).0

pub before_branch-cons : (e : Seen) (x : List Seen)
    → before_first is_branch (e ∷ x) ≡ cond (is_branch e) [] (e ∷ before_first is_branch x)
before_branch-cons e x = by_test (is_branch e) (position_or_len is_branch x)
  where
    by_test : (b : Bool) (n : ℕ) → take (cond (not b) (1 + n) 0) (e ∷ x) ≡ cond b [] (e ∷ take n x)
    by_test true n = refl
    by_test false n = rw one-add refl

module _ (f : Seen → Option ℕ) where
  -- what is read off an exchange is read off a list that has it, and off one that goes on after it
  pub has-front : (x y : List Seen) (u : ℕ) → has (filter_map f x) u ≡ true → has (filter_map f (x ++ y)) u ≡ true
  has-front [] y u h = absurd (true≢false (sym h))
  has-front (e ∷ x) y u h =
      elim (put-has (f e) (filter_map f x) u h) [
        | inl here ↦ has-first (f e) (filter_map f (x ++ y)) u here
        | inr later ↦ has-put (f e) (filter_map f (x ++ y)) u (has-front x y u later)
      ]

  pub has-at : (x : List Seen) (e : Seen) (y : List Seen) (u : ℕ) → f e ≡ Some u
      → has (filter_map f (x ++ e ∷ y)) u ≡ true
  has-at [] e y u is = has-first (f e) (filter_map f y) u is
  has-at (d ∷ x) e y u is = has-put (f d) (filter_map f (x ++ e ∷ y)) u (has-at x e y u is)

  -- and it is one of those before or of the last
  pub push-has : (x : List Seen) (e : Seen) (u : ℕ) → has (filter_map f (x ++ e ∷ [])) u ≡ true
      → (has (filter_map f x) u ≡ true) ⊎ (f e ≡ Some u)
  push-has [] e u h = elim (put-has (f e) [] u h) [ inl last ↦ inr last | inr none ↦ inl none ]
  push-has (d ∷ x) e u h =
      elim (put-has (f d) (filter_map f (x ++ e ∷ [])) u h) [
        | inl first ↦ inl (has-first (f d) (filter_map f x) u first)
        | inr later ↦ elim (push-has x e u later) [
          | inl before ↦ inl (has-put (f d) (filter_map f x) u before)
          | inr last ↦ inr last
        ]
      ]

  -- an exchange off which nothing is read changes nothing
  pub read-push_none : (x : List Seen) (e : Seen) → f e ≡ None → filter_map f (x ++ e ∷ []) ≡ filter_map f x
  read-push_none [] e none = rw none refl
  read-push_none (d ∷ x) e none = ap (cons_option (f d)) (read-push_none x e none)

  -- one off which something is read adds that
  pub read-push_some : (x : List Seen) (e : Seen) (u : ℕ) → f e ≡ Some u
      → filter_map f (x ++ e ∷ []) ≡ filter_map f x ++ u ∷ []
  read-push_some [] e u some = rw some refl
  read-push_some (d ∷ x) e u some = ap (cons_option (f d)) (read-push_some x e u some) ∙ after (f d) (filter_map f x) u
    where
      after : (o : Option ℕ) (us : List ℕ) (u : ℕ) → cons_option o (us ++ u ∷ []) ≡ cons_option o us ++ u ∷ []
      after None us u = refl
      after (Some v) us u = refl

  -- what is read before the first branch
  pub has-before_branch : (x y : List Seen) (u : ℕ) → has (filter_map f (before_first is_branch x)) u ≡ true
      → has (filter_map f (before_first is_branch (x ++ y))) u ≡ true
  has-before_branch [] y u h = absurd (true≢false (sym h))
  has-before_branch (e ∷ x) y u h =
      rw (before_branch-cons e (x ++ y))
      (by_test (is_branch e) (λ later. has-before_branch x y u later) (rw (before_branch-cons e x) at h))
    where
      by_test : (b : Bool)
          → (has (filter_map f (before_first is_branch x)) u ≡ true
          → has (filter_map f (before_first is_branch (x ++ y))) u ≡ true)
          → has (filter_map f (cond b [] (e ∷ before_first is_branch x))) u ≡ true
          → has (filter_map f (cond b [] (e ∷ before_first is_branch (x ++ y)))) u ≡ true
      by_test true onward none = none
      by_test false onward i = elim (put-has (f e) (filter_map f (before_first is_branch x)) u i) [
        | inl here ↦ has-first (f e) (filter_map f (before_first is_branch (x ++ y))) u here
        | inr later ↦ has-put (f e) (filter_map f (before_first is_branch (x ++ y))) u (onward later)
      ]

-- before the first branch stands all of a list without one
pub no_branch-before : (x : List Seen) → AllByRecursion (λ e. is_branch e ≡ false) x → before_first is_branch x ≡ x
no_branch-before [] none = refl
no_branch-before (e ∷ x) none = before_branch-cons e x ∙ rw none.0 (ap (λ l. e ∷ l) (no_branch-before x none.1))

-- consecutive exchanges stay consecutive
pub InSuccession-push : {n : ℕ} {P : Seen → Type 0} {x : List Seen} (y : List Seen) → InSuccession n P x
    → InSuccession n P (x ++ y)
InSuccession-push y s = record {
  front = s.front;
  run = s.run;
  back = s.back ++ y;
  whole = ap (λ l. l ++ y) s.whole ∙ append_assoc (s.front ++ s.run) s.back y;
  many = s.many;
  each = s.each;
}

-- what was cleared stays so, and what was tried
pub IsCleared-push : {x : List Seen} {u : ℕ} (y : List Seen) → IsCleared x u → IsCleared (x ++ y) u
IsCleared-push y c = record { lo = c.lo; hi = c.hi; within = c.within; silent = InSuccession-push y c.silent }

pub IsTried-push : {s : List ℕ} {x : List Seen} {u : ℕ} (t : List ℕ) (y : List Seen) → (has s u ≡ true → has t u ≡ true)
    → IsTried s x u → IsTried t (x ++ y) u
IsTried-push t y more tried = record {
  device = tried.device;
  tried = elim tried.tried [ inl found ↦ inl (more found) | inr lost ↦ inr (InSuccession-push y lost) ];
}

-- the first three are unmutes
pub begun-push : (x y : List Seen) → take UNMUTES (map (λ (e : Seen). e.asked) x) ≡ replicate UNMUTES Unmute
    → take UNMUTES (map (λ (e : Seen). e.asked) (x ++ y)) ≡ replicate UNMUTES Unmute
begun-push (a ∷ b ∷ c ∷ x) y begun = begun
begun-push [] y begun = absurd (short begun)
  where
    short : ◌≡◌ {A = List Asked} [] (replicate UNMUTES Unmute) → ⊥
    short h = cc
begun-push (a ∷ []) y begun = absurd (short a.asked begun)
  where
    short : (q : Asked) → q ∷ [] ≡ replicate UNMUTES Unmute → ⊥
    short q h = cc
begun-push (a ∷ b ∷ []) y begun = absurd (short a.asked b.asked begun)
  where
    short : (p q : Asked) → p ∷ q ∷ [] ≡ replicate UNMUTES Unmute → ⊥
    short p q h = cc
