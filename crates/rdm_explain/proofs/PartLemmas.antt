-- The parts together are the certificate.
use Rattle.std.proofs.Common.{◌≡◌, ℕ, true, List, Option, Some, None, refl, sym, ap, ◌∙◌, subst, inl, inr}
use Rattle.std.specs.Prelude.{◌⊎◌}
use Rattle.std.specs.List.{AllByRecursion}
use Rattle.rdm_wire.specs.Uid.{has, set_of}
use Rattle.rdm_wire.specs.Devices.{uids_of}
use Rattle.rdm_wire.specs.declared.device.Device.{Device}
use Rattle.rdm_wire.specs.Honest.{Seen}
use Rattle.rdm_agent.specs.Run.{acked_in, muted_in}
use Rattle.rdm_agent.specs.Certificate.{Certificate, IsCleared, IsTried, known_of}
use Rattle.rdm_agent.specs.declared.kind.Kind.{Kind}
use Rattle.rdm_agent.proofs.Pushes.{All-at}
use Rattle.rdm_agent.proofs.Sets.{has-set_of}
use Rattle.rdm_explain.specs.declared.exchange.Exchange.{Exchange}
use Rattle.rdm_explain.specs.declared.certificate.RunFinding.{RunFinding}
use Rattle.rdm_explain.specs.declared.certificate.KnownFinding.{KnownFinding}
use Rattle.rdm_explain.specs.Exchanges.{seen_all}
use Rattle.rdm_explain.specs.Covers.{FirstUncovered, IsCovered}
use Rattle.rdm_explain.specs.Certificates.{FirstWithout, FirstElementWithout, FirstMissing, FirstMisreported, NoFailure}
use Rattle.rdm_explain.specs.Certificates.{AreTried, IsAsFirstAcked, IsMutedFirst, MutesAreNamed, ExplainsRun}
use Rattle.rdm_explain.specs.Certificates.{ExplainsKnown, IsComplete, IsKnownComplete}

is_none : {X : Type 0} (P : Option X → Type 0) (o : Option X) → P o → ((x : X) → P (Some x) → ⊥) → o ≡ None
is_none P None p never = refl
is_none P (Some x) p never = absurd (never x p)

cleared_of : (s : List ℕ) (x : List Seen) (u : ℕ) → s ≡ set_of (acked_in x) → IsCovered x u
    → (has s u ≡ true) ⊎ IsCleared x u
cleared_of s x u is (inl acked) = inl (ap (λ l. has l u) is ∙ has-set_of (acked_in x) u ∙ acked)
cleared_of s x u is (inr cleared) = inr cleared

covered_of : (s : List ℕ) (x : List Seen) (u : ℕ) → s ≡ set_of (acked_in x) → (has s u ≡ true) ⊎ IsCleared x u
    → IsCovered x u
covered_of s x u is (inl reported) = inl (sym (has-set_of (acked_in x) u) ∙ ap (λ l. has l u) (sym is) ∙ reported)
covered_of s x u is (inr cleared) = inr cleared

pub certificate_of : (kind : Kind) (known : List ℕ) (xs : List Exchange) (s : List Device) (run : RunFinding)
    (names : KnownFinding) → ExplainsRun s xs run → ExplainsKnown (known_of kind known) xs names → IsComplete run
    → IsKnownComplete names → Certificate kind known (seen_all xs) s
certificate_of kind known xs s run names e k complete named = record {
  search = record {
    unmutes = subst (FirstMissing xs) complete.unmutes e.unmutes;
    no_failure = subst (FirstWithout NoFailure xs) complete.no_failure e.no_failure;
    set = set;
    tried = subst (λ l. AllByRecursion (IsTried l (seen_all xs)) (muted_in (seen_all xs))) (sym set) tried;
    cleared = λ u below. cleared_of (uids_of s) (seen_all xs) u set (covered u below);
    known_first = subst (FirstElementWithout (IsMutedFirst (seen_all xs)) (known_of kind known)) named.known_first
        k.known_first;
    read_first = subst (FirstWithout (MutesAreNamed (known_of kind known)) xs) named.read_first k.read_first;
  };
  first = subst (FirstElementWithout (IsAsFirstAcked (seen_all xs)) s) complete.first e.first;
}
  where
    set : uids_of s ≡ set_of (acked_in (seen_all xs))
    set = subst (FirstMisreported (uids_of s) xs) complete.set e.set

    tried : AreTried (seen_all xs) (seen_all xs)
    tried = subst (FirstWithout (AreTried (seen_all xs)) xs) complete.tried e.tried

    covered : FirstUncovered xs None
    covered = subst (FirstUncovered xs) complete.cleared e.cleared

pub complete_of : (kind : Kind) (known : List ℕ) (xs : List Exchange) (s : List Device) (run : RunFinding)
    → ExplainsRun s xs run → Certificate kind known (seen_all xs) s → IsComplete run
complete_of kind known xs s run e c = record {
  unmutes = is_none (FirstMissing xs) run.missing_unmute e.unmutes (λ at m. m.never c.search.unmutes);
  no_failure = is_none (FirstWithout NoFailure xs) run.failure e.no_failure (λ at m. m.never c.search.no_failure);
  set = is_none (FirstMisreported (uids_of s) xs) run.misreported e.set (λ u m. m.never c.search.set);
  tried = is_none (FirstWithout (AreTried (seen_all xs)) xs) run.untried e.tried (λ at m. m.never
      (subst (λ l. AllByRecursion (IsTried l (seen_all xs)) (muted_in (seen_all xs))) c.search.set c.search.tried));
  cleared = is_none (FirstUncovered xs) run.uncovered e.cleared (λ u m. m.uncovered
      (covered_of (uids_of s) (seen_all xs) u c.search.set (c.search.cleared u m.below)));
  first = is_none (FirstElementWithout (IsAsFirstAcked (seen_all xs)) s) run.other_data e.first (λ d m. m.here
      (All-at (IsAsFirstAcked (seen_all xs)) s m.front m.back d c.first m.whole));
}

pub named_of : (kind : Kind) (known : List ℕ) (xs : List Exchange) (s : List Device) (names : KnownFinding)
    → ExplainsKnown (known_of kind known) xs names → Certificate kind known (seen_all xs) s → IsKnownComplete names
named_of kind known xs s names k c = record {
  known_first = is_none (FirstElementWithout (IsMutedFirst (seen_all xs)) (known_of kind known)) names.not_muted_first
      k.known_first
      (λ u m. m.here (All-at (IsMutedFirst (seen_all xs)) (known_of kind known) m.front m.back u c.search.known_first
      m.whole));
  read_first = is_none (FirstWithout (MutesAreNamed (known_of kind known)) xs) names.unread k.read_first
      (λ at m. m.never c.search.read_first);
}
