use Rattle.std.proofs.Common.{◌∷◌, [], slice_index_or, rules, ◌≡◌, ◌∙◌, refl, sym, ap, arith}
use Rattle.std.specs.Prelude.{is_some}
use Rattle.device_model.specs.Disks.{disks_given_for}
use Rattle.device_model.specs.PortView.{reset_port_without_disk}
use Rattle.device_model.specs.ToldDisks.{all_disks_have_known_sectors}
use Rattle.device_model.proofs.NewModel.{IsIdleModel, IsResetModel, blank_idle, ports_are, all_zero, disks_are, new_port, past_given, zeros_small}
use Rattle.device_model.proofs.model.Model.with_disks.Goals as goal

pub returns : goal.returns
returns g c =
    let bays = c.in_ok-bays_for.field-0.items in
    let is = c.in_ok-bays_for.ensures in
    record {
      adapter_is_new = record {
        memory_size_is = search rules;
        cap = search rules;
        pi = search rules;
        first_given_disks_are_in = λ port.
            new_port g.S.SectorStore.size g.S.SectorStore.told (disks_given_for c.args.disks port) (slice_index_or (c.in_ok-port0.port0 ∷ c.in_ok-port1.port1 ∷ c.in_ok-port2.port2 ∷ c.in_ok-port3.port3 ∷ []) port reset_port_without_disk) _
            (ports_are (λ k p. p.present ≡ is_some (disks_given_for c.args.disks k)) c.in_ok-port0.port0 c.in_ok-port1.port1 c.in_ok-port2.port2 c.in_ok-port3.port3 (c.in_ok-port0.ensures.present ∙ c.is_some.ensures)
            (c.in_ok-port1.ensures.present ∙ c.is_some-2.ensures) (c.in_ok-port2.ensures.present ∙ c.is_some-3.ensures)
            (c.in_ok-port3.ensures.present ∙ c.is_some-4.ensures) port (λ past. sym (ap is_some (past_given c.args.disks port past))))
            (ports_are (λ _ p. p.lasting_tape_length ≡ 0) _ _ _ _ c.in_ok-port0.ensures.lasting c.in_ok-port1.ensures.lasting c.in_ok-port2.ensures.lasting c.in_ok-port3.ensures.lasting port (λ _. refl)) (is.media port);
        tape_is_empty = search rules;
        ae_is_clear = refl;
        ie_is_clear = refl;
        memory_is_zero = all_zero _ _ (c.in_ok-vec.ensures.items_if_clones_equal (λ y e. e));
        ports_are_reset = λ port small.
            ports_are (λ _. IsResetModel) _ _ _ _ c.in_ok-port0.ensures.reset c.in_ok-port1.ensures.reset c.in_ok-port2.ensures.reset c.in_ok-port3.ensures.reset port (λ past. absurd (omega (arith, past, small))) _;
        is_idle = record {
          no_reset = refl;
          ports_are_idle = λ port. ports_are (λ _. IsIdleModel) _ _ _ _ c.in_ok-port0.ensures.idle c.in_ok-port1.ensures.idle c.in_ok-port2.ensures.idle c.in_ok-port3.ensures.idle port (λ _. blank_idle) _;
        };
      };
      holds_and_tells_bytes = record {
        memory_holds_bytes = zeros_small _ _ (c.in_ok-vec.ensures.items_if_clones_equal (λ y e. e));
        disks_hold_sectors = λ port. disks_are g.S.SectorStore.size g.S.SectorStore.told g.met.S.SectorStore.told_sectors_are_valid _;
        disks_are_known_if_telling = all_disks_have_known_sectors g.S.SectorStore.size g.S.SectorStore.told bays;
      };
      disks_tell_sectors_is = is.tells;
      bays_are_new = is.bays;
      none_is_held = search rules;
      queue_is_empty = search rules;
      access_count_is_zero = c.none.ensures.shown;
      no_access_was_made = c.none.ensures.made;
      is_not_starved = refl;
    }
