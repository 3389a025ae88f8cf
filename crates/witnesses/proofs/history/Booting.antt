-- The adapter is reset, and its ports are booted, which finds no ATA disk. This is the way of the device.
use Rattle.std.proofs.Common.{ℕ, zero, suc, ◌≡◌, ◌++◌, ◌∙◌, true, false, List, [], ◌∷◌, inl, inr, refl, sym, ap, subst, arith}
use Rattle.std.proofs.lemmas.Bool.{false≢true, true≢false}
use Rattle.hba_regs.specs.declared.reg.Reg.TheVariants.{Px}
use Rattle.hba_regs.specs.declared.reg.PortReg.{PortReg}
use Rattle.hba_regs.specs.declared.reg.PortReg.TheVariants.{Clb, Clbu, Fb, Fbu, Is, Cmd, Tfd, Sig, Ssts, Sctl, Serr}
use Rattle.adapter.specs.Access.{Access, DoesAll, PortShows, Reads, Writes, notes_after_reading, port_after_write}
use Rattle.adapter.specs.Device.{DevicePort, Device}
use Rattle.adapter.specs.Rules.{MayWriteCmd}
use Rattle.adapter.specs.Steps.{MayLinkUp, device_after, port_after_link_up, port_after_hba_reset}
use Rattle.adapter.specs.Steps.DeviceTransition.{LinkUp, ResetEnds}
use Rattle.refinement.specs.Relation.{port_at}
use Rattle.refinement.specs.MemoryLayout.{command_list_address, received_fis_address}
use Rattle.witnesses.specs.AllowedAccesses.{AreAllowed}
use Rattle.witnesses.specs.Reset.{boot_accesses, reset_and_boot_accesses}
use Rattle.witnesses.specs.RunningAdapter.{running_device, port_or_empty, running_port}
use Rattle.witnesses.proofs.history.Command.{read_memory}
use Rattle.witnesses.proofs.history.Devices.{AlikeBut, but_first, but_second, put_device, reads, same_beside, writes}
use Rattle.witnesses.proofs.history.Submitting.{pages, submitted}

-- ---- a port's boot

-- a port as it is after a reset
abbrev pub quieted : ℕ → DevicePort
quieted port = port_after_hba_reset (running_port port)

-- the link is up, and the device isn't an ATA disk
abbrev up : DevicePort → DevicePort
up p = port_after_link_up p 0xeb140101 false

module _ (k : ℕ) where
  abbrev asked : DevicePort
  asked = record (quieted k) { notes = notes_after_reading Cmd 0 (quieted k) }

  abbrev with_list : DevicePort
  with_list = port_after_write Clb (command_list_address k) 2 asked

  abbrev with_lists : DevicePort
  with_lists = port_after_write Clbu 0 2 with_list

  abbrev with_area : DevicePort
  with_area = port_after_write Fb (received_fis_address k) 2 with_lists

  abbrev placed : DevicePort
  placed = port_after_write Fbu 0 2 with_area

  abbrev asked_again : DevicePort
  asked_again = record placed { notes = notes_after_reading Cmd 0 placed }

  abbrev hearing : DevicePort
  hearing = port_after_write Cmd 0x10 2 asked_again

  abbrev sending : DevicePort
  sending = port_after_write Sctl 1 2 hearing

  abbrev awaiting : DevicePort
  awaiting = port_after_write Sctl 0 2 sending

  abbrev shown : DevicePort
  shown = record (up awaiting) { notes = notes_after_reading Ssts 3 (up awaiting) }

  abbrev unchanged : DevicePort
  unchanged = port_after_write Serr 0xffffffff 2 shown

  abbrev calmed : DevicePort
  calmed = port_after_write Is 0xffffffff 2 unchanged

  abbrev idle : DevicePort
  idle = record calmed { notes = notes_after_reading Tfd 0x77 calmed }

  abbrev pub unfit : DevicePort
  unfit = record idle { notes = notes_after_reading Sig 0xeb140101 idle }

  -- the port stands at its place in these lists
  module _ (around : DevicePort → List DevicePort) (at : (p : DevicePort) → port_or_empty (around p) k ≡ p) (alike : (p q : DevicePort) → AlikeBut k (around p) (around q)) where
    abbrev pub dev : DevicePort → Device
    dev p = running_device pages read_memory (around p)

    unfoldable pub reads_here : (r : PortReg) (v : ℕ) (p : DevicePort) → PortShows r v p → Reads (Px (port_at k) r) v (dev p) (dev (record p { notes = notes_after_reading r v p }))
    reads_here r v p shows = reads pages read_memory k (around p) (around (record p { notes = notes_after_reading r v p })) (alike p (record p { notes = notes_after_reading r v p })) r v
        (subst (PortShows r v) (sym (at p)) shows) (at (record p { notes = notes_after_reading r v p }) ∙ ap (λ (q : DevicePort). record q { notes = notes_after_reading r v q }) (sym (at p)))

    unfoldable pub writes_here : (r : PortReg) (v : ℕ) (p : DevicePort) → Writes (Px (port_at k) r) v (dev p) (dev (port_after_write r v 2 p))
    writes_here r v p = writes pages read_memory k (around p) (around (port_after_write r v 2 p)) (alike p (port_after_write r v 2 p)) r v (at (port_after_write r v 2 p) ∙ ap (port_after_write r v 2) (sym (at p)))

    unfoldable pub comes_up : Reads (Px (port_at k) Ssts) 3 (dev awaiting) (dev shown)
    comes_up = record {
      at_access = dev (up awaiting);
      steps = record {
        steps = LinkUp k 0xeb140101 false ∷ [];
        lead = (
          subst (λ (p : DevicePort). MayLinkUp p 0xeb140101) (sym (at awaiting)) (record { present = refl; no_comreset = refl; link_is_due = refl; sig_is_32_bit = omega arith }),
          put_device pages read_memory k (around awaiting) (around (up awaiting)) (up (port_or_empty (around awaiting) k)) (at (up awaiting) ∙ ap up (sym (at awaiting))) (alike awaiting (up awaiting)),
        );
      };
      shows = subst (PortShows Ssts 3) (sym (at (up awaiting))) refl;
      effect = put_device pages read_memory k (around (up awaiting)) (around shown) (record (port_or_empty (around (up awaiting)) k) { notes = notes_after_reading Ssts 3 (port_or_empty (around (up awaiting)) k) })
          (at shown ∙ ap (λ (q : DevicePort). record q { notes = notes_after_reading Ssts 3 q }) (sym (at (up awaiting)))) (alike (up awaiting) shown);
    }

    -- and then there come these
    unfoldable pub boots : (later : List Access) (new : Device) → DoesAll later (dev unfit) new → DoesAll (boot_accesses k ++ later) (dev (quieted k)) new
    boots later new then = (dev asked, reads_here Cmd 0 (quieted k) (refl, refl, refl, refl), (dev with_list, writes_here Clb (command_list_address k) asked, (dev with_lists, writes_here Clbu 0 with_list, (dev with_area, writes_here Fb (received_fis_address k) with_lists, (dev placed, writes_here Fbu 0 with_area, (dev asked_again, reads_here Cmd 0 placed (refl, refl, refl, refl), (dev hearing, writes_here Cmd 0x10 asked_again, (dev sending, writes_here Sctl 1 hearing, (dev awaiting, writes_here Sctl 0 sending, (dev shown, comes_up, (dev unchanged, writes_here Serr 0xffffffff shown, (dev calmed, writes_here Is 0xffffffff unchanged, (dev idle, reads_here Tfd 0x77 calmed refl, (dev unfit, reads_here Sig 0xeb140101 idle refl, then))))))))))))))

-- ---- the adapter's reset

-- HR is one
abbrev pending : Device
pending = record submitted { hr = true; ae = true; ie = false }

-- and has fallen
abbrev ended : Device
ended = device_after ResetEnds pending

abbrev first_quieted : DevicePort → List DevicePort
first_quieted p = p ∷ quieted 1 ∷ []

abbrev second_quieted : DevicePort → List DevicePort
second_quieted p = unfit 0 ∷ p ∷ []

abbrev begun : Device
begun = running_device pages read_memory (quieted 0 ∷ quieted 1 ∷ [])

abbrev pub rebooted : Device
rebooted = running_device pages read_memory (unfit 0 ∷ unfit 1 ∷ [])

pub ports_are : port_or_empty (quieted 0 ∷ quieted 1 ∷ []) ≡ ended.port
ports_are = λ i n. each n i
  where
    each : (n : ℕ) → port_or_empty (quieted 0 ∷ quieted 1 ∷ []) n ≡ ended.port n
    each zero = refl
    each (suc zero) = refl
    each (suc (suc n)) = refl

unfoldable pub does : DoesAll reset_and_boot_accesses submitted rebooted
does = (
  pending,
  record { at_access = submitted; steps = record { steps = []; lead = refl }; effect = refl },
  (
    ended,
    record { at_access = ended; steps = record { steps = ResetEnds ∷ []; lead = (refl, refl) }; shows = (refl, refl, refl); effect = refl },
    (
      begun,
      record { at_access = ended; steps = record { steps = []; lead = refl }; effect = ap (λ (f : ℕ → DevicePort). record begun { port = f }) ports_are },
      boots 0 first_quieted (λ p. refl) (λ p q. but_first p q (quieted 1 ∷ [])) (boot_accesses 1) rebooted
          (boots 1 second_quieted (λ p. refl) (λ p q. but_second (unfit 0) p q []) [] rebooted refl),
    ),
  ),
)

-- ---- by the rules

may_hear : (k : ℕ) → MayWriteCmd (asked_again k) 0x10
may_hear k = record {
  start = λ set. absurd (false≢true set);
  receive = λ set. inr (record { fr_is_clear = refl; fb_is_written = refl; fbu_is_written = refl });
  stop_receiving = λ clear. absurd (true≢false clear);
  other_bits_are_kept = λ place low start receive. same_beside 0x10 0 refl refl refl refl place start receive;
}

pub allowed : AreAllowed reset_and_boot_accesses submitted rebooted does
unfolding does boots comes_up reads_here writes_here reads writes
allowed = (tt, (tt, (tt, ((record { ae_is_set = refl; no_reset = refl }, (omega arith, refl)), ((record { ae_is_set = refl; no_reset = refl }, (omega arith, refl), (refl, refl, refl, omega arith)), ((record { ae_is_set = refl; no_reset = refl }, (omega arith, refl), (refl, refl, refl)), ((record { ae_is_set = refl; no_reset = refl }, (omega arith, refl), (refl, refl, refl, omega arith)), ((record { ae_is_set = refl; no_reset = refl }, (omega arith, refl), (refl, refl, refl)), ((record { ae_is_set = refl; no_reset = refl }, (omega arith, refl)), ((record { ae_is_set = refl; no_reset = refl }, (omega arith, refl), may_hear 0), ((record { ae_is_set = refl; no_reset = refl }, (omega arith, refl), (refl, inr refl)), ((record { ae_is_set = refl; no_reset = refl }, (omega arith, refl), (refl, inl refl)), ((record { ae_is_set = refl; no_reset = refl }, (omega arith, refl)), ((record { ae_is_set = refl; no_reset = refl }, (omega arith, refl), tt), ((record { ae_is_set = refl; no_reset = refl }, (omega arith, refl), tt), ((record { ae_is_set = refl; no_reset = refl }, (omega arith, refl)), ((record { ae_is_set = refl; no_reset = refl }, (omega arith, refl)), ((record { ae_is_set = refl; no_reset = refl }, (omega arith, refl)), ((record { ae_is_set = refl; no_reset = refl }, (omega arith, refl), (refl, refl, refl, omega arith)), ((record { ae_is_set = refl; no_reset = refl }, (omega arith, refl), (refl, refl, refl)), ((record { ae_is_set = refl; no_reset = refl }, (omega arith, refl), (refl, refl, refl, omega arith)), ((record { ae_is_set = refl; no_reset = refl }, (omega arith, refl), (refl, refl, refl)), ((record { ae_is_set = refl; no_reset = refl }, (omega arith, refl)), ((record { ae_is_set = refl; no_reset = refl }, (omega arith, refl), may_hear 1), ((record { ae_is_set = refl; no_reset = refl }, (omega arith, refl), (refl, inr refl)), ((record { ae_is_set = refl; no_reset = refl }, (omega arith, refl), (refl, inl refl)), ((record { ae_is_set = refl; no_reset = refl }, (omega arith, refl)), ((record { ae_is_set = refl; no_reset = refl }, (omega arith, refl), tt), ((record { ae_is_set = refl; no_reset = refl }, (omega arith, refl), tt), ((record { ae_is_set = refl; no_reset = refl }, (omega arith, refl)), ((record { ae_is_set = refl; no_reset = refl }, (omega arith, refl)), tt)))))))))))))))))))))))))))))))
