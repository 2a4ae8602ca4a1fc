use Rattle.std.proofs.Common.{◌∙◌, sym, subst, inl, inr, true}
use Rattle.std.specs.Prelude.{◌≡◌}
use Rattle.rdm_wire.specs.Uid.{has}
use Rattle.rdm_agent.specs.Run.{acked_in}
use Rattle.rdm_agent.proofs.Sets.{has-set_of}
use Rattle.rdm_explain.specs.Exchanges.{seen_all}
use Rattle.rdm_explain.proofs.laws.coverage_is_the_certificates.Goals as goal

pub returns : goal.returns
returns c = record {
  complete = λ xs covers u below. elim (covers u below) [
    | inl acked ↦ inl (has-set_of (acked_in (seen_all xs)) u ∙ acked)
    | inr cleared ↦ inr cleared
  ];
  incomplete = λ kind known xs s u first certificate.
      elim (certificate.search.cleared u first.below) [
        | inl reported ↦ first.uncovered (inl (sym (has-set_of (acked_in (seen_all xs)) u)
            ∙ subst (λ l. has l u ≡ true) certificate.search.set reported))
        | inr cleared ↦ first.uncovered (inr cleared)
      ];
}
