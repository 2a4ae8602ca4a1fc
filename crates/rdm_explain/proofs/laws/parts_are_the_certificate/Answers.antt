use Rattle.rdm_explain.proofs.PartLemmas.{certificate_of, complete_of, named_of}
use Rattle.rdm_explain.proofs.laws.parts_are_the_certificate.Goals as goal

pub returns : goal.returns
returns c = record {
  decided = λ kind known xs s run names e k. (
    λ complete. certificate_of kind known xs s run names e k complete.0 complete.1,
    λ certificate. (
      complete_of kind known xs s run e certificate,
      named_of kind known xs s names k certificate,
    ),
  );
  incomplete = λ kind known xs s run e never certificate. never (complete_of kind known xs s run e certificate);
}
