-- What is stored for a flush and for a trim.
use Rattle.std.proofs.Common.{◌≡◌, List, [], ◌∷◌, refl}
use Rattle.std.proofs.lemmas.List.Elements.{All-nil}
use Rattle.ata_types.specs.declared.Port.{Port}
use Rattle.ata_types.specs.declared.range.Range.{Range}
use Rattle.ata_types.specs.declared.request.Frame.{Frame}
use Rattle.adapter.specs.Commands.{IsValidMeaning, Meaning, command_of}
use Rattle.adapter.specs.Decoding.{IsWholePieces}
use Rattle.adapter.specs.Device.{Device}
use Rattle.adapter.specs.Memory.{bytes_at}
use Rattle.adapter.specs.Trim.{consecutive, trim_sectors}
use Rattle.adapter.specs.declared.command.Command.{Command}
use Rattle.adapter.specs.declared.command.Operation.TheVariants as operation
use Rattle.refinement.specs.Fragments.{IsSimulated}
use Rattle.refinement.specs.MemoryLayout.{command_list_address, scratch_frame_address}
use Rattle.refinement.specs.Slots.{SlotDecodesTo}
use Rattle.command_table.specs.TableStores.{IsHeaderTableOrBlockStore, IsTableFor, IsHeaderOrTableStore, IsSlotStateFree}
use Rattle.ncq.specs.Issuing.{IsPlainTaskStored, MayIssueTask}
use Rattle.flush_trim.specs.PlainTasks.{flush_task, trim_task}

abbrev pub flush : Meaning
flush = record { operation = operation.Flush; first = 0; count = 0 }

abbrev pub trim : Meaning
trim = record { operation = operation.Trim; first = 0; count = 0 }

pub flush_table : (command : Command) → command ≡ command_of operation.Flush 0 0 0 → IsTableFor 0 command [] flush []
flush_table command is = record {
  meaning = record { sectors_fit_if_it_moves_some = λ e. absurd cc; sectors_are_zero_if_it_moves_none = λ _. (refl, refl) };
  fields = is;
  prds_are_whole_pieces = All-nil IsWholePieces;
  places_are = refl;
  place_count_is = refl;
}

pub is_trim : IsValidMeaning trim
is_trim = record { sectors_fit_if_it_moves_some = λ e. absurd cc; sectors_are_zero_if_it_moves_none = λ _. (refl, refl) }

module _ (port : Port) (range : Range) (frames : List Frame) (old mid : Device) (may : MayIssueTask port 0 old) where
  pub stored_flush : IsSimulated (IsHeaderOrTableStore port.0 0) (IsSlotStateFree port.0 0) old mid → SlotDecodesTo mid.memory (command_list_address port.0) port.0 0 flush [] → IsPlainTaskStored port (flush_task range) frames old mid
  stored_flush stores told = record { may_issue_task = may; is_plain = refl; operation_is_plain = refl; stores = stores; slot_says_task = record { slot_says_task = told; block_names_sectors = tt } }

  pub stored_trim : IsSimulated (IsHeaderTableOrBlockStore port.0 0) (IsSlotStateFree port.0 0) old mid → SlotDecodesTo mid.memory (command_list_address port.0) port.0 0 trim (scratch_frame_address port.0 ∷ []) →
      trim_sectors (bytes_at mid.memory (scratch_frame_address port.0) 512) ≡ consecutive range.first.0 range.count → IsPlainTaskStored port (trim_task range) frames old mid
  stored_trim stores told block = record { may_issue_task = may; is_plain = refl; operation_is_plain = refl; stores = stores; slot_says_task = record { slot_says_task = told; block_names_sectors = block } }
