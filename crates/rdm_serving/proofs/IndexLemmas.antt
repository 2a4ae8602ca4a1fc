-- The indices of the calls of one kind, one call after another.
use Rattle.std.proofs.Common.{◌≡◌, ℕ, suc, ◌+◌, ◌<◌, ◌++◌, ◌∷◌, [], Bool, true, false, List, length, take, get_or, map}
use Rattle.std.proofs.Common.{refl, sym, ap, ◌∙◌, arith}
use Rattle.std.specs.Prelude.{if◌then◌else◌}
use Rattle.std.proofs.lemmas.List.{map-append, append-nil, length-take-le, take_more}
use Rattle.rdm_reports.specs.SessionReport.{indices_of}
use Rattle.rdm_files.specs.declared.session.call.ClientCall.{ClientCall}

module _ (is_of_kind : ClientCall → Bool) where
  -- the index of a call, if it is of the kind
  abbrev index_if : ClientCall → ℕ → List ℕ
  index_if call n = if is_of_kind call then n ∷ [] else []

  one_more : (b : Bool) (n : ℕ) (xs ys zs : List ℕ) → xs ≡ ys ++ zs
      → (if b then n ∷ xs else xs) ≡ (if b then n ∷ ys else ys) ++ zs
  one_more true n xs ys zs is = ap (λ l. n ∷ l) is
  one_more false n xs ys zs is = is

  alone : (b : Bool) (n : ℕ) → (if b then n ∷ [] else []) ≡ (if b then (n + 0) ∷ [] else [])
  alone true n = ap (λ k. k ∷ []) (plain n)
    where
      plain : (k : ℕ) → k ≡ k + 0
      plain k = omega arith
  alone false n = refl

  indices_more : (n : ℕ) (calls : List ClientCall) (call : ClientCall)
      → indices_of is_of_kind n (calls ++ call ∷ []) ≡ indices_of is_of_kind n calls ++ index_if call (n + length calls)
  indices_more n [] call = alone (is_of_kind call) n
  indices_more n (c ∷ calls) call =
      one_more (is_of_kind c) n (indices_of is_of_kind (n + 1) (calls ++ call ∷ []))
      (indices_of is_of_kind (n + 1) calls)
      (index_if call (n + suc (length calls)))
      (indices_more (n + 1) calls call
      ∙ ap (λ k. indices_of is_of_kind (n + 1) calls ++ index_if call k) (later n (length calls)))
    where
      later : (k m : ℕ) → (k + 1) + m ≡ k + suc m
      later k m = omega arith

  -- the index of the next call
  indices_next : (calls : List ClientCall) (call_index : ℕ) (call : ClientCall) → call_index < length calls
      → call ≡ get_or calls call_index call
      → indices_of is_of_kind 0 (take (call_index + 1) calls) ≡ indices_of is_of_kind 0 (take call_index calls)
      ++ index_if call call_index
  indices_next calls call_index call lt at =
      ap (λ l. indices_of is_of_kind 0 l)
      (take_more calls call_index call lt ∙ ap (λ c. take call_index calls ++ c ∷ []) (sym at))
      ∙ indices_more 0 (take call_index calls) call
      ∙ ap (λ k. indices_of is_of_kind 0 (take call_index calls) ++ index_if call k)
      (many (length (take call_index calls)) call_index (length-take-le call_index calls (omega (arith, lt))))
    where
      many : (k n : ℕ) → k ≡ n → 0 + k ≡ n
      many k n is = omega (arith, is)

  -- a call of another kind has no outcome here
  pub other_call : (calls : List ClientCall) (tags : List ℕ) (call_index : ℕ) (call : ClientCall)
      → call_index < length calls
      → call ≡ get_or calls call_index call
      → is_of_kind call ≡ false → tags ≡ indices_of is_of_kind 0 (take call_index calls)
      → tags ≡ indices_of is_of_kind 0 (take (call_index + 1) calls)
  other_call calls tags call_index call lt at differs is =
      is ∙ sym (indices_next calls call_index call lt at ∙ ap
      (λ (b : Bool). indices_of is_of_kind 0 (take call_index calls) ++ (if b then call_index ∷ [] else [])) differs
      ∙ append-nil (indices_of is_of_kind 0 (take call_index calls)))

  -- a call of this kind has the next outcome
  pub next_call : {T : Type 0} (tag : T → ℕ) (calls : List ClientCall) (outcomes : List T) (call_index count : ℕ)
      (call : ClientCall) (outcome : T)
      → call_index < length calls → count < length outcomes → call ≡ get_or calls call_index call
      → outcome ≡ get_or outcomes count outcome → is_of_kind call ≡ true → tag outcome ≡ call_index
      → map tag (take count outcomes) ≡ indices_of is_of_kind 0 (take call_index calls)
      → map tag (take (count + 1) outcomes) ≡ indices_of is_of_kind 0 (take (call_index + 1) calls)
  next_call tag calls outcomes call_index count call outcome lt few at there same own is =
      ap (λ l. map tag l) (take_more outcomes count outcome few ∙ ap (λ t. take count outcomes ++ t ∷ []) (sym there))
      ∙ map-append tag (take count outcomes) (outcome ∷ [])
      ∙ ap (λ l. l ++ tag outcome ∷ []) is
      ∙ ap (λ k. indices_of is_of_kind 0 (take call_index calls) ++ k ∷ []) own
      ∙ sym (indices_next calls call_index call lt at ∙ ap
      (λ (b : Bool). indices_of is_of_kind 0 (take call_index calls) ++ (if b then call_index ∷ [] else [])) same)
