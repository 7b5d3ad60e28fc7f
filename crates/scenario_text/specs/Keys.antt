-- The keys of a scenario, and the section that each belongs to.
use Rattle.std.specs.Prelude.{ℕ, Bool, true, false, List, if◌then◌else◌, Option, Some, None, codes}
use Rattle.std.specs.Option.{option_map}
use Rattle.std.specs.Str.{bytes_eq}
use Rattle.desc_text.specs.Items.{key_of}
use Rattle.desc_text.specs.declared.keys.Key.TheVariants as keys
use Rattle.scenario_text.specs.declared.keys.HeadKey.{HeadKey}
use Rattle.scenario_text.specs.declared.keys.HeadKey.TheVariants as heads
use Rattle.scenario_text.specs.declared.keys.LinkKey.{LinkKey}
use Rattle.scenario_text.specs.declared.keys.LinkKey.TheVariants as links
use Rattle.scenario_text.specs.declared.keys.AnyKey.{AnyKey}
use Rattle.scenario_text.specs.declared.keys.AnyKey.TheVariants as any

-- the key of the head that a word is
abbrev pub head_key : List ℕ → Option HeadKey
head_key w =
    if bytes_eq w (codes "steps") then Some heads.Steps
    else (if bytes_eq w (codes "master") then Some heads.Master
    else (if bytes_eq w (codes "micro") then Some heads.Micro
    else (if bytes_eq w (codes "protocol") then Some heads.Protocol
    else (if bytes_eq w (codes "runs") then Some heads.Runs
    else (if bytes_eq w (codes "turn_limit") then Some heads.TurnLimit
    else (if bytes_eq w (codes "tries") then Some heads.Tries
    else (if bytes_eq w (codes "watch_turns") then Some heads.WatchTurns
    else (if bytes_eq w (codes "state_limit") then Some heads.StateLimit
    else (if bytes_eq w (codes "retry_turns") then Some heads.RetryTurns
    else (if bytes_eq w (codes "data_turns") then Some heads.DataTurns
    else (if bytes_eq w (codes "step_tries") then Some heads.StepTries
    else None)))))))))))

-- the key of the links that a word is
abbrev pub link_key : List ℕ → Option LinkKey
link_key w =
    if bytes_eq w (codes "wire") then Some links.Wire
    else (if bytes_eq w (codes "set") then Some links.Set
    else (if bytes_eq w (codes "rerun_set") then Some links.RerunSet
    else (if bytes_eq w (codes "every") then Some links.Every
    else (if bytes_eq w (codes "drop") then Some links.Drop
    else (if bytes_eq w (codes "copy") then Some links.Copy
    else (if bytes_eq w (codes "hold") then Some links.Hold
    else (if bytes_eq w (codes "chaos") then Some links.Chaos
    else None)))))))

-- the first of two that is there
abbrev pub or_some : {X : Type 0} → Option X → Option X → Option X
or_some (Some x) later = Some x
or_some None later = later

-- the key that a word is
abbrev pub any_key : List ℕ → Option AnyKey
any_key w = or_some (option_map (λ k. any.Head k) (head_key w)) (or_some (option_map (λ k. any.Block k) (key_of w)) (option_map (λ k. any.Link k) (link_key w)))

-- a key of the head as a number, by which keys are told apart
abbrev pub head_code : HeadKey → ℕ
head_code heads.Steps = 0
head_code heads.Master = 1
head_code heads.Micro = 2
head_code heads.Protocol = 3
head_code heads.Runs = 4
head_code heads.TurnLimit = 5
head_code heads.Tries = 6
head_code heads.WatchTurns = 7
head_code heads.StateLimit = 8
head_code heads.RetryTurns = 9
head_code heads.DataTurns = 10
head_code heads.StepTries = 11

-- the section of a key: 0 is the head, 1 the slaves, 2 the links
abbrev pub section_of : AnyKey → ℕ
section_of (any.Head k) = 0
section_of (any.Block k) = 1
section_of (any.Link k) = 2

-- whether a line of this key closes the open block
abbrev pub closes_block : AnyKey → Bool
closes_block (any.Block keys.Slave) = true
closes_block (any.Link k) = true
closes_block _ = false
