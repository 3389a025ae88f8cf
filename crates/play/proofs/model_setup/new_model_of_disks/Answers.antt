use Rattle.std.proofs.Common.{arith, subst, sym, ◌∙◌, refl}
use Rattle.std.proofs.lemmas.Result.{IfOk-weaker}
use Rattle.configuration.specs.Rules.{IsTrimWord}
use Rattle.configuration.specs.declared.FaultKind.TheVariants.{OutOfRange}
use Rattle.play.proofs.model_setup.new_model_of_disks.Goals as goal

pub overflow_cast-settings : goal.overflow_cast-settings
overflow_cast-settings g c = omega (arith, (c.requires OutOfRange).numbers.frames.1)

pub overflow_cast-settings-2 : goal.overflow_cast-settings-2
overflow_cast-settings-2 g c = omega (arith, (c.requires OutOfRange).numbers.slots.1)

pub overflow_cast-settings-3 : goal.overflow_cast-settings-3
overflow_cast-settings-3 g c = omega (arith, (c.requires OutOfRange).numbers.depth.1)

pub trim_of-requires : goal.trim_of-requires
trim_of-requires g c = subst IsTrimWord (sym c.as_str.ensures.value) (c.requires OutOfRange).trim

pub with_disks-requires-clause-frames : goal.with_disks-requires-clause-frames
with_disks-requires-clause-frames g c = (c.requires OutOfRange).numbers.frames

pub with_disks-requires-clause-slots : goal.with_disks-requires-clause-slots
with_disks-requires-clause-slots g c = (c.requires OutOfRange).numbers.slots

pub with_disks-requires-clause-depth : goal.with_disks-requires-clause-depth
with_disks-requires-clause-depth g c = (c.requires OutOfRange).numbers.depth

pub returns-clause-is_ready_for_config : goal.returns-clause-is_ready_for_config
returns-clause-is_ready_for_config g c = IfOk-weaker c.with_disks.result _ _ (λ m made. record {
  idle = made.adapter_is_new.is_idle;
  memory_has_frames = λ _. omega (arith, made.adapter_is_new.memory_size_is);
}) c.with_disks.ensures

-- the settings are those that the model was made with
pub returns-clause-is_model : goal.returns-clause-is_model
returns-clause-is_model g c = IfOk-weaker c.with_disks.result _ _ (λ m made. record {
  settings = record { frames = c.args.config.now.frames; slots = c.args.config.now.slots; ncq = c.args.config.now.ncq; depth = c.args.config.now.depth; trim = c.trim_of.result; cache = c.args.config.now.cache };
  settings_match_config = record { frames = refl; slots = refl; queuing = refl; depth = refl; trim = c.trim_of.ensures ∙ c.as_str.ensures.value; cache = refl };
  is_new_model = made;
}) c.with_disks.ensures
