-- The claim of the prepared calls. Assumes nothing.
use Rattle.prepared.specs.Claims.{OnTheSheet}
use Rattle.prepared.proofs.Sheets.{prepared-holds, start-prepared, choose-prepared, run-prepared, plain-prepared}
use Rattle.prepared.proofs.Sheets.{instant-prepared}

pub on-the-sheet : OnTheSheet
unfolding OnTheSheet
on-the-sheet s ws m e l =
    record {
      holds = prepared-holds s m e ws l;
      start = start-prepared s m e ws l;
      calls =
          λ st h b.
          record {
            choose = choose-prepared s m e ws l st h b;
            run = run-prepared s m e ws l st h b;
            plain = plain-prepared s m e ws l st h b;
            instant = instant-prepared s m e ws l st h b;
          };
    }
