use Rattle.std.proofs.Common.{◌≡◌, ◌∙◌, ap, ap₂, false}
use Rattle.clap.specs.Words.{AddsSubcommand, App, app_of, with_subcommand}
use Rattle.clap.specs.declared.builder.command.Command.{Command}
use Rattle.clap.specs.declared.builder.command.Command.TheViews.{out-Command}
use Rattle.wd_command.proofs.words.command_line.Goals as goal

-- one more command
added : {above sub new : Command} {before command : App} → AddsSubcommand above sub new → (out-Command sub).has_globals ≡ false → app_of above ≡ before → app_of sub ≡ command
    → app_of new ≡ with_subcommand before command.top
added adds local is is_sub = adds.shape local ∙ ap₂ with_subcommand is (ap (λ (a : App). a.top) is_sub)

pub returns : goal.returns
returns c =
    let check = added c.in_ok-subcommand.ensures c.in_ok-check_command.ensures.local c.in_ok-program.ensures c.in_ok-check_command.ensures.app in
    let explain = added c.in_ok-subcommand-2.ensures c.in_ok-explain_command.ensures.local check c.in_ok-explain_command.ensures.app in
    let verify = added c.in_ok-subcommand-3.ensures c.in_ok-verify_command.ensures.local explain c.in_ok-verify_command.ensures.app in
    let refute = added c.in_ok-subcommand-4.ensures c.in_ok-refute_command.ensures.local verify c.in_ok-refute_command.ensures.app in
    added c.in_ok-command.ensures c.in_ok-run_command.ensures.local refute c.in_ok-run_command.ensures.app
