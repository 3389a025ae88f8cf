use Rattle.std.proofs.Common.{◌≡◌, ap, ◌∙◌, arith, subst, sym}
use Rattle.adapter.specs.Decoding.{pieces}
use Rattle.adapter.specs.declared.command.Prd.{Prd}
use Rattle.command_table.specs.SectorPlaces.{places_of}
use Rattle.command_table.specs.TableStores.{IsTableFor}
use Rattle.std.specs.Prelude.{List}
use Rattle.ncq.specs.Tasks.{task_places, meaning_of}
use Rattle.ncq.proofs.Telling.{no_block, table_says}
use Rattle.ncq.proofs.store_command.Goals as goal

pub prds_in-prds-requires : goal.prds_in-prds-requires
prds_in-prds-requires g c =
    let small = c.requires.small in
    let few = c.requires.may.transfer_fits.count_is_allowed in
    let some = c.requires.may.transfer_fits.count_is_positive in
    let number = c.requires.may.transfer_fits.frame_count_is in (
      omega (arith, small),
      (
        record {
          frame_count_is_allowed = omega (arith, few, number);
          even = omega arith;
          bytes_fit = omega (arith, number);
          last_frame_is_used = omega (arith, number, some);
        },
        c.requires.room,
      ),
    )

pub as_slice-requires : goal.as_slice-requires
as_slice-requires g c = let small = c.requires.small in omega (arith, small)

pub returns-clause-stores : goal.returns-clause-stores
returns-clause-stores g c =
    let q = c.requires in
    let few = q.may.transfer_fits.count_is_allowed in
    let places : pieces c.prds_in-prds.result.items ≡ places_of c.args.what.now.loan.now.frames c.args.what.now.task.range.count =
    c.prds_in-prds.ensures.places (omega arith) ∙ ap (places_of c.args.what.now.loan.now.frames) (omega arith) in
    let transfer = c.args.what.now.task in
    let port = c.args.port.0 in
    let slot = c.args.what.now.slot.0 in
    let addresses = task_places port transfer.op transfer.range.count c.args.what.now.loan.now.frames in
    let table = table_says transfer c.args.what.now.loan.now.frames port slot q.may.transfer_fits.is_transfer q.may.transfer_fits.count_is_positive few q.may.transfer_fits.first_in_range c.args.meant.now c.prds_in-prds.result.items c.requires.is_command
    (c.prds_in-prds.ensures.are_whole_pieces (omega arith)) places in
    record {
      adapter_is_on = c.write_table.ensures.adapter_is_on;
      stores = c.write_table.ensures.followed;
      slot_says_task = record {
        slot_says_task =
            let P : List Prd → Type 0 = λ es. IsTableFor slot c.args.meant.now es (meaning_of transfer) addresses in
            c.write_table.ensures.slot_decodes (meaning_of transfer) addresses (subst P (sym c.as_slice.ensures.value) table);
        block_names_sectors = no_block transfer.range port _ transfer.op q.may.transfer_fits.is_transfer;
      };
    }
