use Rattle.std.proofs.Common.{arith}
use Rattle.rdm_port.proofs.LineLemmas.{none_spelled, one_spelled, all_spelled, other_spelled}
use Rattle.rdm_port.proofs.line_values.devices_of.Goals as goal

pub texts-init : goal.texts-init
texts-init c = none_spelled c.args.texts.now c.new-known.result c.new-known.ensures

pub texts-preserved : goal.texts-preserved
texts-preserved c =
    one_spelled c.args.texts.now c.texts.i c.in-Ok.uid _ c.texts.known c.insert.new.self c.insert.result
    c.texts-test.true c.requires c.texts.invariant c.in-Ok.ensures.ok c.insert.ensures.inserted
    c.insert.ensures.full.0

pub returns-in-Err : goal.returns-in-Err
returns-in-Err c = record {
  ok = tt;
  fault = (
    c.in-Err.ensures.fault.0,
    λ listed spelled. other_spelled c.args.texts.now listed c.texts.i _ c.texts-test.true c.in-Err.ensures.fault.1
        spelled,
  );
}

pub returns : goal.returns
returns c = record {
  ok = all_spelled c.args.texts.now c.texts.i c.texts.known (omega arith) c.texts.invariant;
  fault = tt;
}
