-- How shares are merged, each into its client's list.
use Rattle.std.proofs.Common.{◌≡◌, ℕ, suc, ◌+◌, ◌<◌, Bool, true, false, List, [], ◌∷◌, ◌++◌, map, length}
use Rattle.std.proofs.Common.{refl, sym, ap, subst, ◌∙◌, Some, inl, inr, ◌⊎◌, arith, append-nil}
use Rattle.std.specs.Prelude.{◌≢◌, ◌||◌, eqb, slice_get, slice_set}
use Rattle.std.specs.List.{AllByRecursion, IsDistinct, list_any}
use Rattle.std.proofs.lemmas.List.{append_assoc}
use Rattle.std.proofs.lemmas.List.Elements.{All-from_recursion, recursion_from_All}
use Rattle.std.proofs.lemmas.Bool.{eqb-true}
use Rattle.std.proofs.lemmas.Map.Steps.{length-le_from_distinct_below}
use Rattle.std.proofs.lemmas.Option.{get_or_from_slice_get, slice_get_within}
use Rattle.rdm_agent.proofs.Members.{last_part}
use Rattle.rdm_log.specs.log.LogState.{LogState}
use Rattle.rdm_locked.specs.Calls.{is_call_of}
use Rattle.rdm_locked.specs.Clients.{AllAgree, Agrees, client_of, made_by}
use Rattle.rdm_locked.specs.body.Found.{AreMerged, IsMerged, list_of}
use Rattle.rdm_locked.specs.body.Own.{AreCallsOf}
use Rattle.rdm_locked.specs.body.Keeps.{Keeps}
use Rattle.rdm_locked.specs.declared.history.LoggedCall.{LoggedCall}
use Rattle.rdm_locked.specs.declared.share.CallShare.{CallShare}
use Rattle.rdm_locked.proofs.HistoryLemmas.{index_set, length_set, other_client}

pub length_last : {X : Type 0} (xs : List X) (x : X) → length (xs ++ x ∷ []) ≡ length xs + 1
length_last [] x = refl
length_last (y ∷ xs) x = omega (arith, length_last xs x)

each_also : {X : Type 0} (P Q : X → Type 0) (xs : List X) → ((x : X) → P x → Q x) → AllByRecursion P xs
    → AllByRecursion Q xs
each_also P Q [] also all = tt
each_also P Q (x ∷ xs) also all = (also x all.0, each_also P Q xs also all.1)

each_mapped : {X Y : Type 0} (f : X → Y) (P : Y → Type 0) (xs : List X) → AllByRecursion (λ x. P (f x)) xs
    → AllByRecursion P (map f xs)
each_mapped f P [] all = tt
each_mapped f P (x ∷ xs) all = (all.0, each_mapped f P xs all.1)

true_false : true ≡ false → ⊥
true_false e = cc

-- a list with a mark isn't one of calls alone
no_calls_marked : (c : ℕ) (items mark : List LoggedCall) (e : LoggedCall) → mark ≡ e ∷ [] → is_call_of c e.entry ≡ false
    → AreCallsOf c (items ++ mark) → ⊥
no_calls_marked c items mark e is other all =
    true_false (sym (last_part (λ (m : LoggedCall). is_call_of c m.entry ≡ true) items (e ∷ [])
    (recursion_from_All (λ (m : LoggedCall). is_call_of c m.entry ≡ true) (items ++ e ∷ [])
    (subst (λ (m : List LoggedCall). AreCallsOf c (items ++ m)) is all))).0 ∙ other)

module _ {L : Type 0} where
  -- no share is merged at first
  pub none_merged : (lists : List (List LoggedCall)) (all : List (CallShare L)) → AreMerged lists lists all all
  unfolding IsDistinct
  none_merged lists all = record {
    merged = [];
    is = sym (append-nil all);
    each = tt;
    apart = tt;
    long = refl;
    others = λ c calls. refl;
  }

  -- a share is merged whose list has no mark yet, and then has one
  pub merged_more : (old now after : List (List LoggedCall)) (all left rest : List (CallShare L)) (x : CallShare L)
      (mark : List LoggedCall) (e : LoggedCall) → AreMerged old now all left → left ≡ rest ++ x ∷ []
      → slice_get now (client_of x) ≡ Some (made_by x) → AreCallsOf (client_of x) (made_by x) → mark ≡ e ∷ []
      → is_call_of (client_of x) e.entry ≡ false → after ≡ slice_set now (client_of x) (made_by x ++ mark)
      → AreMerged old after all rest
  unfolding IsDistinct
  merged_more old now after all left rest x mark e m popped here own is other becomes = record {
    merged = x ∷ m.merged;
    is = m.is ∙ ap (λ l. l ++ m.merged) popped ∙ append_assoc rest (x ∷ []) m.merged;
    each = (mine, each_also (IsMerged old now) (IsMerged old after) m.merged stays m.each);
    apart = (
      each_mapped client_of (λ d. eqb c d ≡ false) m.merged
          (each_also (IsMerged old now) (λ s. eqb c (client_of s) ≡ false) m.merged
          (λ s done. other_client c (client_of s) (λ same. differs s done (sym same))) m.each),
      m.apart,
    );
    long = ap length becomes ∙ length_set now c (made_by x ++ mark) ∙ m.long;
    others = others;
  }
    where
      c : ℕ
      c = client_of x

      now_has : list_of now c ≡ made_by x
      now_has = get_or_from_slice_get now c (made_by x) [] here

      own_now : AreCallsOf c (list_of now c)
      own_now = subst (AreCallsOf c) (sym now_has) own

      no_calls : AreCallsOf c (made_by x ++ mark) → ⊥
      no_calls = no_calls_marked c (made_by x) mark e is other

      at : (d : ℕ) → ((d ≡ c) × (list_of after d ≡ made_by x ++ mark) × (list_of now d ≡ made_by x))
          ⊎ ((d ≢ c) × (list_of after d ≡ list_of now d))
      at d = subst (λ (l : List (List LoggedCall)). ((d ≡ c) × (list_of l d ≡ made_by x ++ mark)
          × (list_of now d ≡ made_by x)) ⊎ ((d ≢ c) × (list_of l d ≡ list_of now d))) (sym becomes)
          (index_set now c d (made_by x) (made_by x ++ mark) here)

      after_marked : (d : ℕ) → d ≡ c → list_of after d ≡ made_by x ++ mark → AreCallsOf d (list_of after d) → ⊥
      after_marked d same has calls =
          no_calls (subst (λ (b : ℕ). AreCallsOf b (made_by x ++ mark)) same (subst (AreCallsOf d) has calls))

      differs : (s : CallShare L) → IsMerged old now s → client_of s ≡ c → ⊥
      differs s done same = done.marked (subst (λ (d : ℕ). AreCallsOf d (list_of now d)) (sym same) own_now)

      mine : IsMerged old after x
      mine = record {
        below = omega (arith, slice_get_within now c (made_by x) here, m.long);
        had = sym (m.others c own_now) ∙ now_has;
        marked = λ calls. elim (at c) [
          | inl p ↦ after_marked c refl p.1 calls
          | inr p ↦ absurd (p.0 refl)
        ];
      }

      stays : (s : CallShare L) → IsMerged old now s → IsMerged old after s
      stays s done = record {
        below = done.below;
        had = done.had;
        marked = λ calls. elim (at (client_of s)) [
          | inl p ↦ differs s done p.0
          | inr p ↦ done.marked (subst (AreCallsOf (client_of s)) p.1 calls)
        ];
      }

      others : (d : ℕ) → AreCallsOf d (list_of after d) → list_of after d ≡ list_of old d
      others d calls = elim (at d) [
        | inl p ↦ absurd (after_marked d p.0 p.1 calls)
        | inr p ↦ p.1 ∙ m.others d (subst (AreCallsOf d) p.1 calls)
      ]

-- of numbers below their count no two of which are the same none is missing
unlisted : (c : ℕ) (xs : List ℕ) → list_any (eqb c) xs ≡ false → AllByRecursion (λ n. eqb c n ≡ false) xs
unlisted c [] none = tt
unlisted c (x ∷ xs) none = by_head (eqb c x) refl none (unlisted c xs)
  where
    by_head : (b : Bool) → eqb c x ≡ b → (b || list_any (eqb c) xs) ≡ false
        → (list_any (eqb c) xs ≡ false → AllByRecursion (λ n. eqb c n ≡ false) xs)
        → AllByRecursion (λ n. eqb c n ≡ false) (x ∷ xs)
    by_head true is none later = absurd (true_false none)
    by_head false is none later = (is, later none)

listed_below : (most : ℕ) (xs : List ℕ) → AllByRecursion (λ n. n < most) xs → (q : ℕ) → list_any (eqb q) xs ≡ true
    → q < most
listed_below most [] all q has = absurd (true_false (sym has))
listed_below most (x ∷ xs) all q has = by_head (eqb q x) refl has (listed_below most xs all.1 q)
  where
    by_head : (b : Bool) → eqb q x ≡ b → (b || list_any (eqb q) xs) ≡ true
        → (list_any (eqb q) xs ≡ true → q < most) → q < most
    by_head true is has later = subst (λ (n : ℕ). n < most) (sym (eqb-true q x is)) all.0
    by_head false is has later = later has

none_missing : (ns : List ℕ) → IsDistinct eqb ns → AllByRecursion (λ n. n < length ns) ns → (c : ℕ) → c < length ns
    → list_any (eqb c) ns ≡ true
unfolding IsDistinct
none_missing ns apart few c less = by_flag (list_any (eqb c) ns) refl
  where
    by_flag : (b : Bool) → list_any (eqb c) ns ≡ b → list_any (eqb c) ns ≡ true
    by_flag true is = is
    by_flag false is =
        absurd (omega (
          arith,
          length-le_from_distinct_below (c ∷ ns) (length ns) (unlisted c ns is, apart)
              (listed_below (length ns) (c ∷ ns) (less, few)),
        ))

module _ {L : Type 0} where
  -- so each share agrees with the log, and each client has one
  pub all_agree : (k : LogState) (lists now : List (List LoggedCall)) (joined : ℕ) (shares : List (CallShare L))
      → Keeps k lists joined → length shares ≡ joined → AreMerged lists now shares [] → AllAgree k shares
  all_agree k lists now joined shares keeps long m =
      subst (AllAgree k) (sym m.is) (record {
        each = All-from_recursion _ m.merged (each_also (IsMerged lists now)
            (λ s. Agrees (client_of s) k (made_by s)) m.merged
            (λ s done. subst (Agrees (client_of s) k) done.had (keeps.each (client_of s))) m.each);
        apart = m.apart;
        all = λ c less. none_missing (map client_of m.merged) m.apart
            (each_mapped client_of (λ n. n < length (map client_of m.merged)) m.merged
            (each_also (IsMerged lists now) (λ s. client_of s < length (map client_of m.merged)) m.merged
            (λ s done. omega (arith, done.below, keeps.long, long, ap length m.is, length_map m.merged)) m.each)) c
            (omega (arith, less, length_map m.merged));
      })
    where
      length_map : (xs : List (CallShare L)) → length (map client_of xs) ≡ length xs
      length_map [] = refl
      length_map (x ∷ xs) = ap suc (length_map xs)
