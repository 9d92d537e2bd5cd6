use Rattle.import_capabilities.proofs.put_last.Goals as goal

pub returns : goal.returns
returns g c =
    record {
      between = _;
      output_between = _;
      sockets = c.put_sockets-streams.ensures;
      last = rw c.end_row-row.ensures at c.put_report.ensures;
    }
