-- The log of a slave: no shelf keeps more than 64 entries, and before a setting of it was accepted nothing is noted.
use Rattle.std.proofs.Common.{◌≡◌, ℕ, ◌-◌, ◌*◌, ◌≤◌, ◌==◌, ◌&&◌, nat_le, Bool, true, false, if◌then◌else◌, List, [], ◌∷◌, ◌++◌, length, take, drop, Option, Some, None, refl, ap, subst, ◌∙◌, arith}
use Rattle.std.proofs.lemmas.List.{length-append, length-drop, length-take}
use Rattle.dcp_types.specs.Values.{digits}
use Rattle.dcp_types.specs.declared.addresses.Address.{Address}
use Rattle.slave_log.specs.declared.lines.LogLine.{LogLine}
use Rattle.slave_log.specs.Shelves.{Shelf, Log, empty, shelf, with_shelf, shelf_set_to, log_configured, newest, line, is_noted, shelf_counted, put, noted, to_send, fetched, left, entry_bytes, entries_bytes, notice_bytes}
use Rattle.slave_spec.specs.declared.words.LogRemark.{LogRemark}
use Rattle.slave_spec.specs.Transport.{Notice, notice_sends}
use Rattle.slave_spec.specs.Requests.{noted_all, notices, told}
use Rattle.slave_spec.specs.Foreign.{AreNoticesFrom}

-- whether a setting of the log was accepted
pub record ShelfStands (logs : Bool) (s : Shelf) : Type 0 where
  pub few : length s.kept ≤ 64
  pub silent : logs ≡ false → s.level ≡ 0

pub record LogStands (logs : Bool) (log : Log) : Type 0 where
  pub first : ShelfStands logs log.first
  pub second : ShelfStands logs log.second
  pub third : ShelfStands logs log.third

pub empty_stands : LogStands false empty
empty_stands = record {
  first = record { few = omega arith; silent = λ e. refl };
  second = record { few = omega arith; silent = λ e. refl };
  third = record { few = omega arith; silent = λ e. refl };
}

module _ (logs : Bool) where
  put_stands : (s : Shelf) (e : LogLine) → ShelfStands logs s → ShelfStands logs (put s e)
  put_stands s e h = by (s.mode == 1)
    where
      by : (b : Bool) → ShelfStands logs (if b then shelf_counted s else record (shelf_counted s) { kept = newest 64 (s.kept ++ e ∷ []) })
      by true = record { few = h.few; silent = h.silent }
      by false = record { few = omega (arith, length-drop (length (s.kept ++ e ∷ []) - 64) (s.kept ++ e ∷ [])); silent = h.silent }

  pub shelf_stands : (log : Log) (category : ℕ) → LogStands logs log → ShelfStands logs (shelf log category)
  shelf_stands log category h = by (category == 1) (category == 2)
    where
      by : (b c : Bool) → ShelfStands logs (if b then log.first else (if c then log.second else log.third))
      by true c = h.first
      by false true = h.second
      by false false = h.third

  with_stands : (log : Log) (category : ℕ) (s : Shelf) → ShelfStands logs s → LogStands logs log → LogStands logs (with_shelf log category s)
  with_stands log category s f h = by (category == 1) (category == 2)
    where
      by : (b c : Bool) → LogStands logs (if b then record log { first = s } else (if c then record log { second = s } else record log { third = s }))
      by true c = record { first = f; second = h.second; third = h.third }
      by false true = record { first = h.first; second = f; third = h.third }
      by false false = record { first = h.first; second = h.second; third = f }

  noted_stands : (log : Log) (category level code step : ℕ) → LogStands logs log → LogStands logs (noted log category level code step)
  noted_stands log category level code step h = by (is_noted (shelf log category) level)
    where
      e : LogLine
      e = line (shelf log category).next category level code step

      by : (t : Bool) → LogStands logs (if t then with_shelf log category (put (shelf log category) e) else log)
      by true = with_stands log category (put (shelf log category) e) (put_stands (shelf log category) e (shelf_stands log category h)) h
      by false = h

  pub all_noted : (log : Log) (step : ℕ) (ns : List LogRemark) → LogStands logs log → LogStands logs (noted_all log step ns)
  all_noted log step [] h = h
  all_noted log step (n ∷ ns) h = all_noted (noted log n.category n.level n.code step) step ns (noted_stands log n.category n.level n.code step h)

  pub left_stands : (log : Log) (category most : ℕ) → LogStands logs log → LogStands logs (left log category most)
  left_stands log category most h =
      let s = shelf_stands log category h in
      let kept = (shelf log category).kept in
      with_stands log category (record (shelf log category) { kept = drop most kept }) (record { few = omega (arith, length-drop most kept, s.few); silent = s.silent }) h

  set_stands : (level mode : ℕ) (s : Shelf) → ShelfStands logs s → ShelfStands true (shelf_set_to level mode s)
  set_stands level mode s h = record { few = h.few; silent = λ e. absurd cc }

  loud : (s : Shelf) → ShelfStands logs s → ShelfStands true s
  loud s h = record { few = h.few; silent = λ e. absurd cc }

  all_loud : (log : Log) → LogStands logs log → LogStands true log
  all_loud log h = record { first = loud log.first h.first; second = loud log.second h.second; third = loud log.third h.third }

-- after a setting of it the log notes what it wants
pub configured_stands : (logs : Bool) (log : Log) (category level mode : ℕ) → LogStands logs log → LogStands true (log_configured log category level mode)
configured_stands logs log category level mode h = by (category == 0)
  where
    by : (b : Bool) → LogStands true (if b then record { first = shelf_set_to level mode log.first; second = shelf_set_to level mode log.second; third = shelf_set_to level mode log.third } else with_shelf log category (shelf_set_to level mode (shelf log category)))
    by true = record { first = set_stands logs level mode log.first h.first; second = set_stands logs level mode log.second h.second; third = set_stands logs level mode log.third h.third }
    by false = with_stands true log category (shelf_set_to level mode (shelf log category)) (set_stands logs level mode (shelf log category) (shelf_stands logs log category h)) (all_loud logs log h)

-- ---- lengths

entry_length : (e : LogLine) → length (entry_bytes e) ≡ 11
unfolding digits
entry_length e = refl

entries_length : (es : List LogLine) → length (entries_bytes es) ≡ length es * 11
entries_length [] = refl
entries_length (e ∷ es) =
    let rest = entries_length es in
    let all = length-append (entry_bytes e) (entries_bytes es) in
    omega (arith, rest, all, entry_length e)

pub fetched_few : (logs : Bool) (log : Log) (category most : ℕ) → LogStands logs log → length (entries_bytes (fetched log category most)) ≤ 1020
fetched_few logs log category most h =
    let kept = (shelf log category).kept in
    omega (arith, entries_length (take most kept), length-take most kept, (shelf_stands logs log category h).few)

notice_few : (e : LogLine) → length (notice_bytes e) ≤ 1020
unfolding digits
notice_few e = omega arith

-- ---- notices

-- what is noted has a level
abbrev pub HaveLevels : List LogRemark → Type 0
HaveLevels [] = Unit {0}
HaveLevels (n ∷ ns) = (nat_le n.level 0 ≡ false) × HaveLevels ns

none_to_send : (log : Log) (category level code step : ℕ) → nat_le level 0 ≡ false → LogStands false log → to_send log category level code step ≡ None
none_to_send log category level code step f h =
    let s : Shelf = shelf log category in
    let e : is_noted s level ≡ false = ap (λ (n : ℕ). nat_le level n) ((shelf_stands false log category h).silent refl) ∙ f in
    ap (λ (b : Bool). if b && (s.mode == 1) then Some (line s.next category level code step) else None) e

notes_silent : (log : Log) (step : ℕ) (ns : List LogRemark) → HaveLevels ns → LogStands false log → notices log step ns ≡ []
notes_silent log step [] f h = refl
notes_silent log step (n ∷ ns) f h =
    let later : Log = noted log n.category n.level n.code step in
    ap (λ (o : Option LogLine). told o (notices later step ns)) (none_to_send log n.category n.level n.code step f.0 h)
    ∙ notes_silent later step ns f.1 (noted_stands false log n.category n.level n.code step h)

notes_told : (to : Address) (id : ℕ) (log : Log) (step : ℕ) (ns : List LogRemark) → AreNoticesFrom to id (notice_sends to id (notices log step ns))
notes_told to id log step [] = tt
notes_told to id log step (n ∷ ns) = by (to_send log n.category n.level n.code step) (notes_told to id later step ns)
  where
    later : Log
    later = noted log n.category n.level n.code step

    by : (o : Option LogLine) → AreNoticesFrom to id (notice_sends to id (notices later step ns)) → AreNoticesFrom to id (notice_sends to id (told o (notices later step ns)))
    by None rest = rest
    by (Some l) rest = (record { category = l.category; level = l.level; text = notice_bytes l; few = notice_few l; same = refl }, rest)

-- entries of the log, and none before a setting of it was accepted
pub record AreNotes (logs : Bool) (ns : List Notice) : Type 0 where
  pub from : (to : Address) (id : ℕ) → AreNoticesFrom to id (notice_sends to id ns)
  pub none : logs ≡ false → ns ≡ []

pub no_notes : (logs : Bool) → AreNotes logs []
no_notes logs = record { from = λ to id. tt; none = λ e. refl }

pub are_notes : (logs : Bool) (log : Log) (step : ℕ) (ns : List LogRemark) → HaveLevels ns → LogStands logs log → AreNotes logs (notices log step ns)
are_notes logs log step ns f h = record {
  from = λ to id. notes_told to id log step ns;
  none = λ e. notes_silent log step ns f (subst (λ (b : Bool). LogStands b log) e h);
}
