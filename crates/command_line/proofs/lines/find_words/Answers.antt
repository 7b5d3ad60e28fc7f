use Rattle.std.proofs.Common.{rules, true, ap, ap₂, codes, List, ℕ, IfOk, map, slice_get, string_bytes, ◌≡◌, ◌∙◌}
use Rattle.std.proofs.lemmas.Result.{IfErr-weaker, IfOk-weaker}
use Rattle.clap.specs.Simple.{app_of_fields}
use Rattle.clap.specs.Walk.{first_of}
use Rattle.clap.specs.Words.{App, Text, app_of, first_value, found_of, is_simple, matches_of, rule_of, takes, with_rule}
use Rattle.clap.specs.declared.builder.command.Command.{Command}
use Rattle.clap.specs.declared.builder.command.Command.TheOpen.{Command-F}
use Rattle.clap.proofs.WalkLemmas.{first_value-rows}
use Rattle.command_line.proofs.Taken.{bare, command_found, command_rule, grammar, line_taken, operand_found, operand_rule, set}
use Rattle.command_line.proofs.lines.find_words.Goals as goal

module _ (c : goal.After-try_get_matches_from) where
  abbrev words : List Text
  words = map string_bytes c.args.words.now

  is_grammar : app_of c.in_ok-line.line ≡ grammar
  is_grammar =
      let bare_is : app_of c.disable_help_flag.result ≡ bare = ap app_of_fields c.disable_help_flag.ensures
      ∙ ap (λ (f : Command-F Command). app_of_fields (record f { disable_help_flag = true })) c.no_binary_name.ensures ∙ ap set c.new-2.ensures.app in
      let command_is : rule_of c.required-command.result ≡ command_rule = search rules in
      let operand_is : rule_of c.new-operand.result ≡ operand_rule = search rules in
      c.in_ok-line.ensures.shape (search rules) ∙ ap₂ with_rule (c.in_ok-arg.ensures.shape (search rules) ∙ ap₂ with_rule bare_is command_is) operand_is

  -- the matches have what those of the grammar have
  finds : (id : Text) (place : ℕ) → first_of id (matches_of grammar words) ≡ slice_get words place
      → IfOk c.try_get_matches_from.result (λ m. first_value (found_of m) id ≡ slice_get words place)
  finds id place found = IfOk-weaker c.try_get_matches_from.result _ _
      (λ m has. first_value-rows (found_of m) id ∙ ap (first_of id) ((has (ap is_simple is_grammar)).0 ∙ ap (λ (a : App). matches_of a words) is_grammar) ∙ found)
      c.try_get_matches_from.ensures.matches

pub returns-clause-command : goal.returns-clause-command
returns-clause-command c = finds c (codes "command") 0 (command_found (words c) c.requires)

pub returns-clause-operand : goal.returns-clause-operand
returns-clause-operand c = finds c (codes "operand") 1 (operand_found (words c) c.requires)

pub returns-clause-taken : goal.returns-clause-taken
returns-clause-taken c =
    IfErr-weaker c.try_get_matches_from.result _ _ (λ e h. h (ap (λ (a : App). takes a (words c)) (is_grammar c) ∙ line_taken (words c) c.requires)) c.try_get_matches_from.ensures.passes
