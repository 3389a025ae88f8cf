-- A port with an issued read is given up, and booted anew, which finds no ATA disk. This is the way of the device.
use Rattle.std.proofs.Common.{ℕ, ◌≡◌, ◌++◌, Bool, false, true, List, [], ◌∷◌, length, inl, inr, refl, arith}
use Rattle.std.proofs.lemmas.Bool.{false≢true, true≢false}
use Rattle.hba_regs.specs.declared.reg.Reg.TheVariants.{Px}
use Rattle.hba_regs.specs.declared.reg.PortReg.{PortReg}
use Rattle.hba_regs.specs.declared.reg.PortReg.TheVariants.{Clb, Clbu, Fb, Fbu, Is, Cmd, Tfd, Sig, Ssts, Sctl, Serr, Sact, Ci}
use Rattle.adapter.specs.Access.{DoesAll, PortShows, Reads, Writes, notes_after_reading, port_after_write}
use Rattle.adapter.specs.Device.{Notes, DevicePort, Device}
use Rattle.adapter.specs.Memory.{changed}
use Rattle.adapter.specs.Rules.{MayWriteCmd}
use Rattle.adapter.specs.Steps.{Can, DeviceTransition, device_after, port_after_link_up}
use Rattle.adapter.specs.Steps.DeviceTransition.{FrFall, LinkUp}
use Rattle.adapter.specs.declared.tape.Entry.{Entry}
use Rattle.refinement.specs.Relation.{port_at}
use Rattle.witnesses.specs.AllowedAccesses.{AreAllowed}
use Rattle.witnesses.specs.Restart.{base_address_accesses, comreset_accesses, stop_and_comreset_accesses, stop_engine_accesses}
use Rattle.witnesses.specs.RunningAdapter.{running_device, port_or_empty}
use Rattle.witnesses.proofs.history.Command.{read_memory}
use Rattle.witnesses.proofs.history.Devices.{but_first, fall, falls_reads, may_stop, no_bit, put_device, reads, same_beside, writes}
use Rattle.witnesses.proofs.history.Still.{all_still}
use Rattle.witnesses.proofs.history.Submitting.{issued, pages, second}

-- ---- accesses of port 0

module _ (tape : List Entry) where
  abbrev pub dev : DevicePort → Device
  dev p = running_device tape read_memory (p ∷ second ∷ [])

  alike : (p q : DevicePort) → dev q ≡ record (dev p) { port = changed (port_or_empty (p ∷ second ∷ [])) 0 q }
  alike p q = put_device tape read_memory 0 (p ∷ second ∷ []) (q ∷ second ∷ []) q refl (but_first p q (second ∷ []))

  unfoldable pub reads_here : (r : PortReg) (v : ℕ) (p : DevicePort) → PortShows r v p → Reads (Px (port_at 0) r) v (dev p) (dev (record p { notes = notes_after_reading r v p }))
  reads_here r v p shows = reads tape read_memory 0 (p ∷ second ∷ []) (record p { notes = notes_after_reading r v p } ∷ second ∷ []) (but_first p (record p { notes = notes_after_reading r v p }) (second ∷ [])) r v shows refl

  unfoldable pub writes_here : (r : PortReg) (v : ℕ) (p : DevicePort) → Writes (Px (port_at 0) r) v (dev p) (dev (port_after_write r v (length tape) p))
  writes_here r v p = writes tape read_memory 0 (p ∷ second ∷ []) (port_after_write r v (length tape) p ∷ second ∷ []) (but_first p (port_after_write r v (length tape) p) (second ∷ [])) r v refl

  -- a register is read when the device has just made a step
  reads_after : (step : DeviceTransition) (p q : DevicePort) (r : PortReg) (v : ℕ) → Can step (dev p) → dev q ≡ device_after step (dev p) → PortShows r v q → Reads (Px (port_at 0) r) v (dev p) (dev (record q { notes = notes_after_reading r v q }))
  reads_after step p q r v can is shows = record { at_access = dev q; steps = record { steps = step ∷ []; lead = (can, is) }; shows = shows; effect = alike q (record q { notes = notes_after_reading r v q }) }

-- ---- the way

-- FR has fallen
abbrev unheard : DevicePort → DevicePort
unheard p = record p { fr = false }

-- the link is up, and the device isn't an ATA disk
abbrev up : DevicePort → DevicePort
up p = port_after_link_up p 0xeb140101 false

-- What is so of port 0, with the read issued, when its masks are read: what the tape has gained since the ports were booted, the bits of PxIS,
-- whether a fatal error has stopped it, and what was noted of it.
pub record Outset : Type 0 where
  pub new_entries : List Entry
  pub still : all_still new_entries ≡ true
  pub flags : ℕ → Bool
  pub broken : Bool
  pub notes : Notes

module _ (c : Outset) where
  abbrev pub tape : List Entry
  tape = pages ++ c.new_entries

  abbrev pub outset : DevicePort
  outset = record issued { is = c.flags; broken = c.broken; notes = c.notes }

  abbrev seen_ci : DevicePort
  seen_ci = record outset { notes = notes_after_reading Ci 1 outset }

  abbrev seen_masks : DevicePort
  seen_masks = record seen_ci { notes = notes_after_reading Sact 0 seen_ci }

  abbrev commanded : DevicePort
  commanded = record seen_masks { notes = notes_after_reading Cmd 0xc011 seen_masks }

  abbrev stopping_port : DevicePort
  stopping_port = port_after_write Cmd 0xc010 (length tape) commanded

  abbrev stopped : DevicePort
  stopped = record (fall stopping_port) { notes = notes_after_reading Cmd 0x4010 (fall stopping_port) }

  abbrev commanded_again : DevicePort
  commanded_again = record stopped { notes = notes_after_reading Cmd 0x4010 stopped }

  abbrev closing : DevicePort
  closing = port_after_write Cmd 0x4000 (length tape) commanded_again

  abbrev closed : DevicePort
  closed = record (unheard closing) { notes = notes_after_reading Cmd 0 (unheard closing) }

  abbrev with_list : DevicePort
  with_list = port_after_write Clb 0 (length tape) closed

  abbrev with_lists : DevicePort
  with_lists = port_after_write Clbu 0 (length tape) with_list

  abbrev with_area : DevicePort
  with_area = port_after_write Fb 0x400 (length tape) with_lists

  abbrev placed : DevicePort
  placed = port_after_write Fbu 0 (length tape) with_area

  abbrev asked_again : DevicePort
  asked_again = record placed { notes = notes_after_reading Cmd 0 placed }

  abbrev hearing : DevicePort
  hearing = port_after_write Cmd 0x10 (length tape) asked_again

  abbrev sending : DevicePort
  sending = port_after_write Sctl 1 (length tape) hearing

  abbrev awaiting : DevicePort
  awaiting = port_after_write Sctl 0 (length tape) sending

  abbrev shown : DevicePort
  shown = record (up awaiting) { notes = notes_after_reading Ssts 3 (up awaiting) }

  abbrev unchanged : DevicePort
  unchanged = port_after_write Serr 0xffffffff (length tape) shown

  abbrev quieted : DevicePort
  quieted = port_after_write Is 0xffffffff (length tape) unchanged

  abbrev idle : DevicePort
  idle = record quieted { notes = notes_after_reading Tfd 0x77 quieted }

  abbrev pub unfit : DevicePort
  unfit = record idle { notes = notes_after_reading Sig 0xeb140101 idle }

  -- ---- accesses, one after another

  falls : Reads (Px (port_at 0) Cmd) 0x4010 (dev tape stopping_port) (dev tape stopped)
  falls = falls_reads tape read_memory 0 0x4010 (stopping_port ∷ second ∷ []) (fall stopping_port ∷ second ∷ []) (stopped ∷ second ∷ []) (but_first stopping_port (fall stopping_port) (second ∷ [])) (but_first (fall stopping_port) stopped (second ∷ []))
      refl refl refl (refl, refl, refl, refl) refl

  closes : Reads (Px (port_at 0) Cmd) 0 (dev tape closing) (dev tape closed)
  closes = reads_after tape (FrFall 0) closing (unheard closing) Cmd 0 (refl, refl, refl) (alike tape closing (unheard closing)) (refl, refl, refl, refl)

  comes_up : Reads (Px (port_at 0) Ssts) 3 (dev tape awaiting) (dev tape shown)
  comes_up = reads_after tape (LinkUp 0 0xeb140101 false) awaiting (up awaiting) Ssts 3 (record { present = refl; no_comreset = refl; link_is_due = refl; sig_is_32_bit = omega arith }) (alike tape awaiting (up awaiting)) refl

  resets : DoesAll comreset_accesses (dev tape hearing) (dev tape unfit)
  resets = (dev tape sending, writes_here tape Sctl 1 hearing, (dev tape awaiting, writes_here tape Sctl 0 sending, (dev tape shown, comes_up, (dev tape unchanged, writes_here tape Serr 0xffffffff shown, (dev tape quieted, writes_here tape Is 0xffffffff unchanged, (dev tape idle, reads_here tape Tfd 0x77 quieted refl, (dev tape unfit, reads_here tape Sig 0xeb140101 idle refl, refl)))))))

  places : DoesAll (base_address_accesses ++ comreset_accesses) (dev tape stopped) (dev tape unfit)
  places = (dev tape commanded_again, reads_here tape Cmd 0x4010 stopped (refl, refl, refl, refl), (dev tape closing, writes_here tape Cmd 0x4000 commanded_again, (dev tape closed, closes, (dev tape with_list, writes_here tape Clb 0 closed, (dev tape with_lists, writes_here tape Clbu 0 with_list, (dev tape with_area, writes_here tape Fb 0x400 with_lists, (dev tape placed, writes_here tape Fbu 0 with_area, (dev tape asked_again, reads_here tape Cmd 0 placed (refl, refl, refl, refl), (dev tape hearing, writes_here tape Cmd 0x10 asked_again, resets)))))))))

  stops : DoesAll (stop_engine_accesses ++ (base_address_accesses ++ comreset_accesses)) (dev tape seen_masks) (dev tape unfit)
  stops = (dev tape commanded, reads_here tape Cmd 0xc011 seen_masks (refl, refl, refl, refl), (dev tape stopping_port, writes_here tape Cmd 0xc010 commanded, (dev tape stopped, falls, places)))

  pub restarts : DoesAll stop_and_comreset_accesses (dev tape outset) (dev tape unfit)
  restarts = (dev tape seen_ci, reads_here tape Ci 1 outset (λ k low. refl), (dev tape seen_masks, reads_here tape Sact 0 seen_ci (λ k low. no_bit k), stops))

  -- ---- by the rules

  may_close : MayWriteCmd commanded_again 0x4000
  may_close = record {
    start = λ set. absurd (false≢true set);
    receive = λ set. absurd (false≢true set);
    stop_receiving = λ clear. inr (record { st_is_clear = refl; cr_is_clear = refl }, refl);
    other_bits_are_kept = λ place low start receive. same_beside 0x4000 0x4010 refl refl refl refl place start receive;
  }

  may_hear : MayWriteCmd asked_again 0x10
  may_hear = record {
    start = λ set. absurd (false≢true set);
    receive = λ set. inr (record { fr_is_clear = refl; fb_is_written = refl; fbu_is_written = refl });
    stop_receiving = λ clear. absurd (true≢false clear);
    other_bits_are_kept = λ place low start receive. same_beside 0x10 0 refl refl refl refl place start receive;
  }

  pub restart_allowed : AreAllowed stop_and_comreset_accesses (dev tape outset) (dev tape unfit) restarts
  unfolding restarts stops places resets falls reads_after closes comes_up reads_here writes_here reads writes falls_reads
  restart_allowed = ((record { ae_is_set = refl; no_reset = refl }, (omega arith, refl)), ((record { ae_is_set = refl; no_reset = refl }, (omega arith, refl)), ((record { ae_is_set = refl; no_reset = refl }, (omega arith, refl)), ((record { ae_is_set = refl; no_reset = refl }, (omega arith, refl), may_stop commanded 0xc010 0xc011 refl refl refl refl refl), ((record { ae_is_set = refl; no_reset = refl }, (omega arith, refl)), ((record { ae_is_set = refl; no_reset = refl }, (omega arith, refl)), ((record { ae_is_set = refl; no_reset = refl }, (omega arith, refl), may_close), ((record { ae_is_set = refl; no_reset = refl }, (omega arith, refl)), ((record { ae_is_set = refl; no_reset = refl }, (omega arith, refl), (refl, refl, refl, omega arith)), ((record { ae_is_set = refl; no_reset = refl }, (omega arith, refl), (refl, refl, refl)), ((record { ae_is_set = refl; no_reset = refl }, (omega arith, refl), (refl, refl, refl, omega arith)), ((record { ae_is_set = refl; no_reset = refl }, (omega arith, refl), (refl, refl, refl)), ((record { ae_is_set = refl; no_reset = refl }, (omega arith, refl)), ((record { ae_is_set = refl; no_reset = refl }, (omega arith, refl), may_hear), ((record { ae_is_set = refl; no_reset = refl }, (omega arith, refl), (refl, inr refl)), ((record { ae_is_set = refl; no_reset = refl }, (omega arith, refl), (refl, inl refl)), ((record { ae_is_set = refl; no_reset = refl }, (omega arith, refl)), ((record { ae_is_set = refl; no_reset = refl }, (omega arith, refl), tt), ((record { ae_is_set = refl; no_reset = refl }, (omega arith, refl), tt), ((record { ae_is_set = refl; no_reset = refl }, (omega arith, refl)), ((record { ae_is_set = refl; no_reset = refl }, (omega arith, refl)), tt)))))))))))))))))))))
