-- What fits the fields of the messages that a slave sends: what it has heard, what its log holds, and what its wiring says.
use Rattle.std.specs.Prelude.{ℕ, ◌<◌, ◌≤◌, List, [], ◌∷◌, length}
use Rattle.pdu_layout.specs.declared.messages.Cfg.TheVariants as cfg
use Rattle.slave_log.specs.declared.lines.LogLine.{LogLine}
use Rattle.slave_log.specs.Shelves.{Shelf, Log}
use Rattle.slave_spec.specs.Changes.{Change, Set, output, entries}
use Rattle.slave_spec.specs.declared.words.Asked.{Asked}
use Rattle.slave_spec.specs.declared.words.Asked.TheVariants.{Setting}
use Rattle.slave_spec.specs.declared.words.SlaveRequest.{SlaveRequest}
use Rattle.slave_spec.specs.declared.words.Session.{Session}
use Rattle.slave_spec.specs.declared.words.Session.TheVariants.{Before, During, After}
use Rattle.slave_spec.specs.Transport.{SlaveAnswer, ErrorAck, LogAck, Exchange, SlaveState}
use Rattle.slave_spec.specs.Plants.{Plant}

abbrev pub AreBytes : List ℕ → Type 0
AreBytes [] = Unit {0}
AreBytes (b ∷ bytes) = (b < 256) × AreBytes bytes

-- a request is numbered by sixteen bits, and its receiver by eight
pub record RequestFits (r : SlaveRequest) : Type 0 where
  pub number : r.number < 65536
  pub receiver : r.receiver < 256

-- a data id has sixteen bits
abbrev pub SettingFits : Change → Type 0
SettingFits (Set (cfg.Output id position vr)) = id < 65536
SettingFits change = Unit {0}

abbrev pub AskedFits : Asked → Type 0
AskedFits (Setting body) = SettingFits (Set body)
AskedFits asked = Unit {0}

-- 64 entries of 11 bytes are the most that an answer tells
abbrev pub AnswerFits : SlaveAnswer → Type 0
AnswerFits (ErrorAck code) = code < 65536
AnswerFits (LogAck bytes) = AreBytes bytes × (length bytes ≤ 704)
AnswerFits answer = Unit {0}

pub record LineFits (e : LogLine) : Type 0 where
  pub category : e.category < 256
  pub level : e.level < 256
  pub code : e.code < 256

abbrev pub LinesFit : List LogLine → Type 0
LinesFit [] = Unit {0}
LinesFit (e ∷ lines) = LineFits e × LinesFit lines

pub record ShelfFits (s : Shelf) : Type 0 where
  pub lines : LinesFit s.kept
  pub few : length s.kept ≤ 64

pub record LogFits (log : Log) : Type 0 where
  pub first : ShelfFits log.first
  pub second : ShelfFits log.second
  pub third : ShelfFits log.third

abbrev pub SettingsFit : List Change → Type 0
SettingsFit [] = Unit {0}
SettingsFit (change ∷ changes) = SettingFits change × SettingsFit changes

-- a payload has at most eight values
abbrev pub PayloadsFit : List Change → Type 0
PayloadsFit changes = (id : ℕ) → length (entries output id changes) ≤ 8

pub record PlantFits (p : Plant) : Type 0 where
  pub log : LogFits p.log
  pub settings : SettingsFit p.wires.changes
  pub payloads : PayloadsFit p.wires.changes

abbrev pub SessionHasId : Session → Type 0
SessionHasId Before = Unit {0}
SessionHasId (During master id) = id < 256
SessionHasId (After master id) = id < 256

abbrev pub ServedFits : List Exchange → Type 0
ServedFits [] = Unit {0}
ServedFits (e ∷ served) = (RequestFits e.request × AnswerFits e.answer) × ServedFits served

pub record SlaveFits (x : SlaveState Plant) : Type 0 where
  pub inner : PlantFits x.inner
  pub session : SessionHasId x.session
  pub served : ServedFits x.served
