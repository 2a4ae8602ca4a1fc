use Rattle.std.proofs.Common.{refl}
use Rattle.rdm_port.proofs.ExplanationLemmas.{start_cut, told_whole, told_cut, told_part}
use Rattle.rdm_port.proofs.explaining.print_log.Goals as goal

pub returns-in-Err : goal.returns-in-Err
returns-in-Err g c =
    start_cut c.args.form c.args.devices.now.present.items c.args.devices.now.passing.items
    (g.R.Read.remaining c.args.reader.now) (g.W.Write.contents c.args.writer.now)
    (g.W.Write.contents c.write_all.new.writer) (rw c.requires.start at c.in-Err.ensures.some)

pub returns-in-Ok : goal.returns-in-Ok
returns-in-Ok g c =
    told_whole c.args.form c.args.devices.now.present.items c.args.devices.now.passing.items
    (g.R.Read.remaining c.args.reader.now) (g.W.Write.contents c.args.writer.now)
    (g.W.Write.contents c.write_all.new.writer) (g.W.Write.contents c.write_runs.new.writer)
    (g.W.Write.contents c.print_text.new.writer) c.args.start.now c.in-Ok.broken c.print_text.result.0
    c.requires.start c.in_default.ensures.all c.in-Ok.ensures.explained
    (rw c.explain_status.ensures at (rw c.document_end.ensures at (rw c.as_bytes.ensures.value at
    c.print_text.ensures)))

pub returns-in-Some : goal.returns-in-Some
returns-in-Some g c =
    told_cut c.args.form c.args.devices.now.present.items c.args.devices.now.passing.items
    (g.R.Read.remaining c.args.reader.now) (g.W.Write.contents c.args.writer.now)
    (g.W.Write.contents c.write_all.new.writer) (g.W.Write.contents c.write_runs.new.writer) c.args.start.now
    c.in-Err-write_runs.fault c.requires.start c.in_default.ensures.all c.in-Err-write_runs.ensures.stopped

pub returns-in-None : goal.returns-in-None
returns-in-None g c =
    told_part c.args.form c.args.devices.now.present.items c.args.devices.now.passing.items
    (g.R.Read.remaining c.args.reader.now) (g.W.Write.contents c.args.writer.now)
    (g.W.Write.contents c.write_all.new.writer) (g.W.Write.contents c.write_runs.new.writer)
    (g.W.Write.contents c.print_stop.new.writer) c.args.start.now c.in-Err-write_runs.fault c.print_stop.result.0
    c.requires.start c.in_default.ensures.all c.in-Err-write_runs.ensures.stopped (c.in-None.ensures refl)
    c.print_stop.ensures
