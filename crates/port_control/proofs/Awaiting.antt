-- What accesses tell of an engine that is awaited.
use Rattle.std.proofs.Common.{ℕ, ◌≡◌, ◌+◌, ◌++◌, false, List, [], ◌∷◌, refl, ◌∙◌, ap, append_assoc}
use Rattle.std.proofs.lemmas.List.{length-append}
use Rattle.std.proofs.lemmas.List.Elements.{All-nil, All-push, All-weaker}
use Rattle.ata_types.specs.declared.Port.{Port}
use Rattle.hba_regs.specs.Bits.{bit}
use Rattle.hba_regs.specs.declared.reg.PortReg.TheVariants.{Cmd}
use Rattle.hba_regs.specs.declared.reg.Reg.TheVariants.{Px}
use Rattle.adapter.specs.Access.{Access}
use Rattle.adapter.specs.Access.Access.{Reading, Writing, Loading, Storing}
use Rattle.refinement.specs.PreservedParts.{DoesNotWrite}
use Rattle.port_control.specs.Engines.{AwaitsEngineStop, EngineFalls, ShowsStillRunning, ReadsPortCmd}

-- a reading writes nothing
reading_spares : (Shown : ℕ → Type 0) (port : Port) (access : Access) → ReadsPortCmd Shown port access → DoesNotWrite (Px port Cmd) access
reading_spares Shown port (Reading r v) is = tt
reading_spares Shown port (Writing r v) is = absurd is
reading_spares Shown port (Loading at bytes) is = absurd is
reading_spares Shown port (Storing at bytes) is = absurd is

module _ (start running : ℕ) (port : Port) where
  -- the bit is written 0
  pub awaits_none : (cleared : ℕ) → bit cleared start ≡ false → (early late : List Access) → late ≡ Writing (Px port Cmd) cleared ∷ [] → AwaitsEngineStop start running port 0 (early ++ late)
  awaits_none cleared zero early late is = record {
    before = early;
    written_cmd = cleared;
    stuck_readings = [];
    accesses_are = ap (λ (accesses : List Access). early ++ accesses) is;
    start_is_cleared = zero;
    count_is = refl;
    all_show_running = All-nil (ReadsPortCmd (ShowsStillRunning start running) port);
  }

  -- PxCMD is read
  module _ (n v : ℕ) (early late : List Access) (a : AwaitsEngineStop start running port n early) (is : late ≡ Reading (Px port Cmd) v ∷ []) where
    then_reads : early ++ late ≡ a.before ++ (Writing (Px port Cmd) a.written_cmd ∷ (a.stuck_readings ++ Reading (Px port Cmd) v ∷ []))
    then_reads =
        ap (λ (accesses : List Access). accesses ++ late) a.accesses_are
        ∙ (append_assoc a.before (Writing (Px port Cmd) a.written_cmd ∷ a.stuck_readings) late
        ∙ ap (λ (accesses : List Access). a.before ++ (Writing (Px port Cmd) a.written_cmd ∷ (a.stuck_readings ++ accesses))) is)

    pub awaits_more : ShowsStillRunning start running v → AwaitsEngineStop start running port (n + 1) (early ++ late)
    awaits_more shows = record {
      before = a.before;
      written_cmd = a.written_cmd;
      stuck_readings = a.stuck_readings ++ Reading (Px port Cmd) v ∷ [];
      accesses_are = then_reads;
      start_is_cleared = a.start_is_cleared;
      count_is = length-append a.stuck_readings (Reading (Px port Cmd) v ∷ []) ∙ ap (λ (k : ℕ). k + 1) a.count_is;
      all_show_running = All-push (ReadsPortCmd (ShowsStillRunning start running) port) a.stuck_readings (Reading (Px port Cmd) v) a.all_show_running (refl, shows);
    }

    pub awaits_falls : bit v running ≡ false → EngineFalls start running port (early ++ late)
    awaits_falls zero = record {
      before = a.before;
      written_cmd = a.written_cmd;
      between = a.stuck_readings;
      read_cmd = v;
      later = [];
      accesses_are = then_reads;
      start_is_cleared = a.start_is_cleared;
      cmd_is_unwritten = All-weaker (ReadsPortCmd (ShowsStillRunning start running) port) (DoesNotWrite (Px port Cmd)) (reading_spares (ShowsStillRunning start running) port) a.stuck_readings a.all_show_running;
      stop_is_shown = zero;
    }
