use Rattle.std.proofs.Common.{sym, ◌∙◌, arith}
use Rattle.serde_json.specs.View.{view}
use Rattle.rdm_files.proofs.KnownForms.{none_known, one_known, all_known, too_many_known, other_known}
use Rattle.rdm_files.proofs.scene.file.KnownFormForm.read.Goals as goal

pub returns-then-len-gt-MOST_DEVICES : goal.returns-then-len-gt-MOST_DEVICES
returns-then-len-gt-MOST_DEVICES c other =
    too_many_known (view c.args.value.now) c.in-Some.values.now.items c.in-Some.ensures (omega arith)

pub known-init : goal.known-init
known-init c = none_known c.in-Some.values.now.items c.new-known.result c.new-known.ensures

pub returns-in-Err : goal.returns-in-Err
returns-in-Err c other = other_known (view c.args.value.now) c.in-Some.values.now.items c.known.i c.index.result.now
    c.in-Some.ensures (omega arith) c.index.ensures (c.in-Err.ensures (sym c.in_item.ensures ∙ other))

pub known-preserved : goal.known-preserved
known-preserved c = one_known c.in-Some.values.now.items c.known.i c.in-Ok.uid c.index.result.now c.known.known
    c.insert.new.self c.insert.result (omega arith) (omega arith) c.index.ensures c.known.invariant c.in-Ok.ensures
    c.insert.ensures.inserted c.insert.ensures.full.0

pub returns : goal.returns
returns c = all_known (view c.args.value.now) c.in-Some.values.now.items c.known.i c.known.known c.in-Some.ensures
    (omega arith) (omega arith) c.known.invariant
