use native.Mathlib.Omega.{arith}
use Rattle.lines.proofs.Laws.{text-waits}
use Rattle.import_tray.specs.Trays.{report_text}
use Rattle.import_capabilities.proofs.Laws.{text-put}
use Rattle.import_capabilities.proofs.put_report.Goals as goal

pub returns : goal.returns
returns g c =
    let a = c.args in
    let room = c.make_room-streams in
    let m = c.write_report-answer in
    let fits = room.ensures.2 c.requires in
    let text = report_text a.report in
    let put = text-put a.output.now room.result.waiting fits text m.ensures.2 in
    rw (m.ensures.1, put.1) (record {
      waits = text-waits a.before room.result c.waits.result a.output.now 315 text room.ensures.0 (omega (arith, fits, m.ensures.2))
          (rw (m.ensures.0, put.0, m.ensures.1, put.1) at c.waits.ensures);
      short = m.ensures.2;
    })
