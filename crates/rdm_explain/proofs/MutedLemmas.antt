-- Whether a device stays muted, as a test.
use Rattle.std.proofs.Common.{◌≡◌, ℕ, ◌+◌, ◌<◌, Bool, true, false, ◌&&◌, ◌||◌, List, [], ◌∷◌, ◌++◌, refl, sym, ap, ◌∙◌}
use Rattle.std.proofs.Common.{subst, inl, inr, true≢false, append_assoc, append-nil, length, take, get_or}
use Rattle.std.specs.Prelude.{◌≢◌, ◌==◌, fold}
use Rattle.std.specs.List.{AllByRecursion}
use Rattle.std.proofs.lemmas.List.{map-append, take_more}
use Rattle.std.proofs.lemmas.Bool.{and_parts, or_cases, eqb-true, eq-eqb}
use Rattle.std.proofs.lemmas.List.Sums.{fold-append}
use Rattle.std.proofs.Math.Bool.{or-true}
use Rattle.rdm_wire.specs.Honest.{Asked, Heard, Seen, is_acked}
use Rattle.rdm_wire.specs.Honest.Asked.{Unmute, Branch, Mute, Other}
use Rattle.rdm_explain.specs.declared.exchange.Exchange.{Exchange}
use Rattle.rdm_explain.specs.Exchanges.{seen_of, seen_all}
use Rattle.rdm_explain.specs.Garbled.{StaysMuted}
use Rattle.rdm_explain.specs.body.Garbling.{muted_after, muted_with, stays_muted}
use Rattle.rdm_explain.proofs.EndLemmas.{all_append}

-- u stays muted by what the test says
extend : (u : ℕ) (x : List Seen) (e : Seen) → e.asked ≢ Unmute → StaysMuted u x → StaysMuted u (x ++ e ∷ [])
extend u x e other is = record {
  front = is.front;
  mute = is.mute;
  back = is.back ++ e ∷ [];
  whole = ap (λ l. l ++ e ∷ []) is.whole ∙ append_assoc is.front (is.mute ∷ is.back) (e ∷ []);
  asked = is.asked;
  acked = is.acked;
  no_unmute = all_append (λ (s : Seen). s.asked ≢ Unmute) is.back (e ∷ []) is.no_unmute (other, tt);
}

one_more_is : (u : ℕ) (x : List Seen) (b : Bool) (e : Seen) (a : Asked) → e.asked ≡ a → (b ≡ true → StaysMuted u x)
    → muted_after u b a e.heard ≡ true → StaysMuted u (x ++ e ∷ [])
one_more_is u x b e Unmute asked was is = absurd (true≢false (sym is))
one_more_is u x b e (Branch lo hi) asked was is = extend u x e (λ other. cc) (was is)
one_more_is u x b e Other asked was is = extend u x e (λ other. cc) (was is)
one_more_is u x b e (Mute v) asked was is = elim (or_cases (is_acked e.heard && (u == v)) b is) [
  | inl acked ↦
      let both = and_parts (is_acked e.heard) (u == v) acked in record {
        front = x;
        mute = e;
        back = [];
        whole = refl;
        asked = asked ∙ ap (λ w. Mute w) (sym (eqb-true u v both.1));
        acked = both.0;
        no_unmute = tt;
      }
  | inr before ↦ extend u x e (λ other. cc) (was before)
]

muted_from : (u : ℕ) (front x : List Seen) (b : Bool) → (b ≡ true → StaysMuted u front)
    → fold (muted_with u) b x ≡ true → StaysMuted u (front ++ x)
muted_from u front [] b was is = subst (StaysMuted u) (sym (append-nil front)) (was is)
muted_from u front (e ∷ x) b was is =
    subst (StaysMuted u) (append_assoc front (e ∷ []) x)
    (muted_from u (front ++ e ∷ []) x (muted_with u b e)
    (λ now. one_more_is u front b e e.asked refl was now) is)

pub muted_is : (u : ℕ) (x : List Seen) → stays_muted x u ≡ true → StaysMuted u x
muted_is u x is = muted_from u [] x false (λ never. absurd (true≢false (sym never))) is

still_muted : (u : ℕ) (a : Asked) (h : Heard) → a ≢ Unmute → muted_after u true a h ≡ true
still_muted u Unmute h other = absurd (other refl)
still_muted u (Branch lo hi) h other = refl
still_muted u Other h other = refl
still_muted u (Mute v) h other = or-true (is_acked h && (u == v))

muted_through : (u : ℕ) (x : List Seen) → AllByRecursion (λ (e : Seen). e.asked ≢ Unmute) x
    → fold (muted_with u) true x ≡ true
muted_through u [] all = refl
muted_through u (e ∷ x) all =
    ap (λ b. fold (muted_with u) b x) (still_muted u e.asked e.heard all.0) ∙ muted_through u x all.1

muted_by : (u : ℕ) (b : Bool) (e : Seen) → e.asked ≡ Mute u → is_acked e.heard ≡ true → muted_with u b e ≡ true
muted_by u b e asked acked =
    ap (λ a. muted_after u b a e.heard) asked ∙ ap (λ k. (k && (u == u)) || b) acked
    ∙ ap (λ k. k || b) (eq-eqb u u refl)

pub muted_test : (u : ℕ) (x : List Seen) → StaysMuted u x → stays_muted x u ≡ true
muted_test u x is =
    ap (λ l. stays_muted l u) is.whole
    ∙ fold-append (muted_with u) false is.front (is.mute ∷ is.back)
    ∙ ap (λ b. fold (muted_with u) b is.back)
    (muted_by u (fold (muted_with u) false is.front) is.mute is.asked is.acked)
    ∙ muted_through u is.back is.no_unmute

-- the set of muted devices after one more exchange
muted_push : (u : ℕ) (x : List Seen) (e : Seen) → stays_muted (x ++ e ∷ []) u ≡ muted_with u (stays_muted x u) e
muted_push u x e = fold-append (muted_with u) false x (e ∷ [])

pub muted_more : (u : ℕ) (xs : List Exchange) (at : ℕ) (e : Exchange) (old new : Bool) → at < length xs
    → e ≡ get_or xs at e → old ≡ stays_muted (seen_all (take at xs)) u → new ≡ muted_with u old (seen_of e)
    → new ≡ stays_muted (seen_all (take (at + 1) xs)) u
muted_more u xs at e old new within read was is =
    is ∙ ap (λ b. muted_with u b (seen_of e)) was
    ∙ sym (ap (λ l. stays_muted (seen_all l) u) (take_more xs at e within ∙ ap (λ x. take at xs ++ x ∷ []) (sym read))
    ∙ ap (λ l. stays_muted l u) (map-append seen_of (take at xs) (e ∷ []))
    ∙ muted_push u (seen_all (take at xs)) (seen_of e))
