use Rattle.std.proofs.Common.{subst, arith, ◌≡◌, rules}
use Rattle.rdm_agent.specs.Calls.{next_op}
use Rattle.rdm_agent.specs.declared.op.Op.TheVariants.{End}
use Rattle.rdm_reports.specs.Discovery.{HasDriven}
use Rattle.rdm_reports.proofs.DiscoveryLemmas.{none_logged, one_logged, all_driven, reported_logged}
use Rattle.rdm_reports.proofs.discovery.make_run.Goals as goal
use Rattle.rdm_reports.proofs.discovery.make_run.Goals.{else-exchanges-test, then-exchanges-test+then-eq}

pub exchanges-init : goal.exchanges-init
exchanges-init g c =
    none_logged _ g.L.Line.step c.args.source c.args.search c.args.kind c.args.known.now c.args.budget c.args.line.now
    c.start_by-agent.result c.args.log.now c.start_by-agent.ensures.state c.start_by-agent.ensures.has_run

pub exchanges-preserved : goal.exchanges-preserved
exchanges-preserved g c =
    one_logged _ g.L.Line.step c.args.source c.args.search c.args.kind c.args.known.now c.args.budget c.exchanges.made
    c.args.line.now c.exchanges.line c.ask.new.line c.exchanges.agent c.ask.new.agent c.args.log.now c.exchanges.log
    c.ask.new.log c.exchanges.invariant c.ask.ensures

pub end-requires : goal.end-requires
end-requires g c = elim c.exchanges-test.branch [
  | else-exchanges-test w ↦ all_driven _ g.L.Line.step c.args.source c.args.search c.args.kind c.args.known.now
      c.args.budget c.args.line.now c.exchanges.line c.exchanges.agent
      (let full : c.exchanges.made ≡ c.args.budget = omega arith in
      subst (λ n. HasDriven _ g.L.Line.step c.args.source c.args.search c.args.kind c.args.known.now c.args.budget
      c.args.line.now n c.exchanges.agent c.exchanges.line) full c.exchanges.invariant.0)
  | then-exchanges-test+then-eq w ↦ search rules
]

pub returns-clause-logged : goal.returns-clause-logged
returns-clause-logged g c =
    let ended : next_op c.exchanges.agent ≡ End = elim c.exchanges-test.branch [
      | else-exchanges-test w ↦ all_driven _ g.L.Line.step c.args.source c.args.search c.args.kind c.args.known.now
          c.args.budget c.args.line.now c.exchanges.line c.exchanges.agent
          (let full : c.exchanges.made ≡ c.args.budget = omega arith in
          subst (λ n. HasDriven _ g.L.Line.step c.args.source c.args.search c.args.kind c.args.known.now c.args.budget
          c.args.line.now n c.exchanges.agent c.exchanges.line) full c.exchanges.invariant.0)
      | then-exchanges-test+then-eq w ↦ search rules
    ] in
    reported_logged _ g.L.Line.step c.args.source c.args.search c.args.kind c.args.known.now c.args.budget
    c.exchanges.made
    c.frames.result c.args.line.now c.exchanges.line c.exchanges.agent c.end.result c.args.log.now c.exchanges.log
    c.exchanges.invariant ended c.end.ensures.value c.frames.ensures.counted

pub returns-clause-run : goal.returns-clause-run
returns-clause-run g c = (returns-clause-logged g c).0
