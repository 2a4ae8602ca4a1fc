-- The unmutes that begin a run.
use Rattle.std.proofs.Common.{◌≡◌, ℕ, zero, suc, ◌+◌, ◌<◌, ◌≤◌, List, [], ◌∷◌, refl, sym, ap, ◌∙◌, subst, arith, take}
use Rattle.std.proofs.Common.{length, get_or, map}
use Rattle.std.specs.Prelude.{replicate}
use Rattle.std.proofs.lemmas.List.{get_or-map, length-map}
use Rattle.rdm_wire.specs.Honest.{Asked, Seen}
use Rattle.rdm_wire.specs.Honest.Asked.{Unmute}
use Rattle.rdm_agent.specs.declared.limits.TheConstants.{UNMUTES}
use Rattle.rdm_agent.proofs.Members.{heads, tails}
use Rattle.rdm_explain.specs.declared.exchange.Exchange.{Exchange}
use Rattle.rdm_explain.specs.Exchanges.{seen_of, seen_all}
use Rattle.rdm_explain.specs.Certificates.{BeginsByUnmutes, IsFirstMissing}

abbrev UnmutesFirst : ℕ → List Asked → Type 0
UnmutesFirst n l = take n l ≡ replicate n Unmute

fewer : (m n : ℕ) (l : List Asked) → m ≤ n → UnmutesFirst n l → UnmutesFirst m l
fewer zero n l less e = refl
fewer (suc m) zero l less e = absurd (omega arith)
fewer (suc m) (suc n) [] less e = absurd (none e)
  where
    none : ◌≡◌ {A = List Asked} [] (Unmute ∷ replicate n Unmute) → ⊥
    none h = cc
fewer (suc m) (suc n) (a ∷ l) less e =
    ap (λ b. b ∷ take m l) (heads e) ∙ ap (λ k. Unmute ∷ k) (fewer m n l (omega arith) (tails e))

here_is : (n : ℕ) (l : List Asked) (d : Asked) → n < length l → UnmutesFirst (suc n) l → get_or l n d ≡ Unmute
here_is n [] d within e = absurd (omega arith)
here_is zero (a ∷ l) d within e = heads e
here_is (suc n) (a ∷ l) d within e = here_is n l d (omega arith) (tails e)

one_more : (n : ℕ) (l : List Asked) (d : Asked) → n < length l → get_or l n d ≡ Unmute → UnmutesFirst n l
    → UnmutesFirst (suc n) l
one_more n [] d within is e = absurd (omega arith)
one_more zero (a ∷ l) d within is e = ap (λ b. b ∷ []) is
one_more (suc n) (a ∷ l) d within is e =
    ap (λ b. b ∷ take (suc n) l) (heads e) ∙ ap (λ k. Unmute ∷ k) (one_more n l d (omega arith) is (tails e))

abbrev asks : List Exchange → List Asked
asks xs = map (λ (e : Seen). e.asked) (seen_all xs)

long_as : (xs : List Exchange) → length (asks xs) ≡ length xs
long_as xs = length-map (seen_all xs) _ ∙ length-map xs seen_of

asked_at : (xs : List Exchange) (at : ℕ) (e : Exchange) → at < length xs → e ≡ get_or xs at e
    → get_or (asks xs) at (seen_of e).asked ≡ (seen_of e).asked
asked_at xs at e within read =
    get_or-map (λ (s : Seen). s.asked) (seen_all xs) at (seen_of e) (seen_of e).asked
    (let long : length (seen_all xs) ≡ length xs = length-map xs seen_of in omega (arith, long, within))
    ∙ ap (λ (s : Seen). s.asked) (get_or-map seen_of xs at e (seen_of e) within ∙ ap seen_of (sym read))

next_is : (at : ℕ) → at + 1 ≡ suc at
next_is at = omega arith

pub missing_here : (xs : List Exchange) (at : ℕ) (e : Exchange) → at < length xs → e ≡ get_or xs at e → at < UNMUTES
    → BeginsByUnmutes at (seen_all xs) → ((seen_of e).asked ≡ Unmute → ⊥) → IsFirstMissing (seen_all xs) at
missing_here xs at e within read few before other = record {
  few = few;
  before = before;
  here = here;
  never = λ all. here (fewer (at + 1) 3 (asks xs) (omega (arith, few)) all);
}
  where
    here : UnmutesFirst (at + 1) (asks xs) → ⊥
    here all = other (sym (asked_at xs at e within read)
        ∙ here_is at (asks xs) (seen_of e).asked (let long = long_as xs in omega (arith, long, within))
        (subst (λ k. UnmutesFirst k (asks xs)) (next_is at) all))
