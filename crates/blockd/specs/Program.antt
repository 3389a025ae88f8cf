-- What the program makes of its files (this project's own).
use Rattle.std.specs.Prelude.{ℕ, ◌≡◌, ◌⊎◌, Bool, List, [], Option, Ok, Err, replicate, string_bytes}
use Rattle.std.specs.Global.{Vec}
use Rattle.std.specs.declared.result.Result.{Result}
use Rattle.std.specs.Io.KnownBytes.{Keeps}
use Rattle.sector_store.specs.declared.disks.DiskStore.{DiskStore}
use Rattle.sector_store.specs.declared.disks.DiskStore.TheVariants.{File, Memory}
use Rattle.sector_store.specs.declared.file.FileStore.{FileStore}
use Rattle.sector_store.specs.Stores.{filled_with_zeros_to_size}
use Rattle.sector_store.specs.declared.store.MemStore.{MemStore}
use Rattle.command_line.specs.declared.Args.{Args}
use Rattle.device_model.specs.declared.model.Model.{Model}
use Rattle.play.specs.PlayedScript.{EndsPlay}
use Rattle.play.specs.declared.session.Ended.{Ended}
use Rattle.play.specs.declared.session.Ended.TheVariants.{Done, NoMemory as OutOfMemory}
use Rattle.blockd.specs.Faults.{program_result_of}
use Rattle.blockd.specs.declared.fault.BlockdError.{BlockdError}
use Rattle.blockd.specs.declared.fault.BlockdError.TheVariants.{Config, Image, Script, Unwritten}
use Rattle.blockd.specs.declared.fault.BlockdError.TheVariants as fault
use Rattle.blockd.specs.declared.program.Inputs.{Inputs}
use Rattle.blockd.specs.declared.program.FileError.{FileError}
use Rattle.blockd.specs.declared.program.FileError.TheVariants.{NoMemory, Unavailable}

-- ---- its files

-- The fault that is reported if a file can't be had: this one, unless memory was refused.
abbrev pub file_fault_of : FileError → BlockdError → BlockdError
file_fault_of NoMemory _ = fault.NoMemory
file_fault_of Unavailable told = told

module _ {H : Type 0} (reads : H → H → List ℕ → Result (Vec ℕ) FileError → Type 0)
    (opens : H → H → List ℕ → Result FileStore FileError → Type 0) (args : Args) where
  -- what the run is made of, if the image could be opened
  abbrev pub inputs_of : (config script : Vec ℕ) → Result FileStore FileError → Result Inputs BlockdError
  inputs_of config script (Ok image) = Ok (record { config = config; script = script; image = image })
  inputs_of config script (Err why) = Err (file_fault_of why Image)

  -- once the script was read, the image is opened
  abbrev pub LoadsImage : (old new : H) → Vec ℕ → Result (Vec ℕ) FileError → Result Inputs BlockdError → Type 0
  LoadsImage old new config (Ok script) result =
      (image : Result FileStore FileError) × opens old new (string_bytes args.image) image
      × (result ≡ inputs_of config script image)
  LoadsImage old new config (Err why) result = (new ≡ old) × (result ≡ Err (file_fault_of why Script))

  -- once the configuration was read, the script is
  abbrev pub LoadsScriptThenImage : (old new : H) → Result (Vec ℕ) FileError → Result Inputs BlockdError → Type 0
  LoadsScriptThenImage old new (Ok config) result =
      (script : Result (Vec ℕ) FileError) × (read : H) × reads old read (string_bytes args.script) script
      × LoadsImage read new config script result
  LoadsScriptThenImage old new (Err why) result = (new ≡ old) × (result ≡ Err (file_fault_of why (Config 0)))

  -- The host was asked for the files that the words name: the configuration, then the script, then the image, as far as
  -- each could be had.
  abbrev pub Loads : (old new : H) → Result Inputs BlockdError → Type 0
  Loads old new result = (config : Result (Vec ℕ) FileError) × (read : H)
      × reads old read (string_bytes args.config) config × LoadsScriptThenImage read new config result

-- ---- its run

-- the image, and a disk in memory with 2048 sectors of zeros
pub record IsImageAnd2048BlankSectors (image : FileStore) (first second : DiskStore) : Type 0 where
  pub first_is : first ≡ File image
  pub blank : MemStore
  pub second_is : second ≡ Memory blank
  pub blank_has_2048_sectors : blank.size ≡ 2048
  pub zeros : filled_with_zeros_to_size blank.size blank.written.items ≡ replicate 2048 (replicate 512 0)

-- What the program makes of how a play ended, with what the output still gathers then. If lines were played, it is the
-- end and nothing is gathered any more, or the output failed to hand it on; if none was, it is the end.
abbrev pub ReportsEndOrUnwritten : Ended → List ℕ → Result (Unit {0}) BlockdError → Type 0
ReportsEndOrUnwritten Done gathered result = ((result ≡ Ok tt) × (gathered ≡ [])) ⊎ (result ≡ Err Unwritten)
ReportsEndOrUnwritten OutOfMemory gathered result = ((result ≡ Err fault.NoMemory) × (gathered ≡ []))
    ⊎ (result ≡ Err Unwritten)
ReportsEndOrUnwritten ended gathered result = result ≡ program_result_of ended

-- The script was played over both disks, as far as it could be, and the output keeps what it took then. The result is
-- how that ended, as the program reports it.
pub record RunsScript {S : Type 0} (size : S → ℕ) (told : S → Option (ℕ → List ℕ)) (config script : List ℕ)
    (image blank : S) (trace : Bool)
    (old new : Option (List ℕ)) (gathered : List ℕ) (result : Result (Unit {0}) BlockdError) : Type 0 where
  pub ended : Ended
  pub model : Option (Model S)
  pub printed : Option (List ℕ)
  pub ends : EndsPlay size told config script image blank trace old printed ended model
  pub output_is_kept : Keeps printed new
  pub reports_end : ReportsEndOrUnwritten ended gathered result
