-- What the words of a command line give the program (this project's own command, read as clap reads its words).
use Rattle.std.specs.Prelude.{◌≡◌, ◌↔◌, List, [], Some, true, codes, IsTrue, string_bytes}
use Rattle.clap.specs.Words.{App, Row, Rule, Text, fault_of, first_of, matches_of, new_app, new_rule, with_rule}
use Rattle.clap.specs.declared.builder.action.ArgAction.TheVariants.{Set, SetTrue}
use Rattle.command_line.specs.declared.Args.{Args}

-- `--NAME FILE`, which is required
abbrev pub file_option : Text → Rule
file_option name = record (new_rule name) { long = Some name; required = true; action = Some Set }

-- `--trace`, which has no value
abbrev pub trace_flag : Rule
trace_flag = record (new_rule (codes "trace")) { long = Some (codes "trace"); action = Some SetTrue }

-- the command that the words are read by
abbrev pub blockd_app : App
blockd_app = with_rule (with_rule (with_rule (with_rule (new_app (codes "blockd"))
    (file_option (codes "config"))) (file_option (codes "image"))) (file_option (codes "script"))) trace_flag

-- these are the values that stand in what clap found
pub record MatchesHaveValues (rows : List Row) (args : Args) : Type 0 where
  pub config : first_of (codes "config") rows ≡ Some (string_bytes args.config)
  pub image : first_of (codes "image") rows ≡ Some (string_bytes args.image)
  pub script : first_of (codes "script") rows ≡ Some (string_bytes args.script)
  pub trace : IsTrue args.trace ↔ (first_of (codes "trace") rows ≡ Some (codes "true"))

-- clap finds no fault in the words, and finds these values
pub record AreArgsOf (words : List Text) (args : Args) : Type 0 where
  pub faultless : fault_of blockd_app words ≡ []
  pub values : MatchesHaveValues (matches_of blockd_app words) args
