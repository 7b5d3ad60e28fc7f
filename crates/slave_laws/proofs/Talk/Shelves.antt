-- The log of a slave stays in the ranges of the messages that tell it.
use Rattle.std.proofs.Common.{◌≡◌, ℕ, zero, suc, ◌-◌, ◌*◌, ◌<◌, ◌≤◌, ◌==◌, ◌&&◌, Bool, true, false, if◌then◌else◌, List, [], ◌∷◌, ◌++◌, length, take, drop, Some, None, refl, subst, arith}
use Rattle.std.proofs.lemmas.List.{length-append, length-drop, length-take}
use Rattle.dcp_types.specs.Values.{digits}
use Rattle.slave_log.specs.declared.lines.LogLine.{LogLine}
use Rattle.slave_log.specs.Shelves.{Shelf, Log, shelf, with_shelf, shelf_set_to, log_configured, newest, line, is_noted, shelf_counted, put, noted, to_send, fetched, left, entry_bytes, entries_bytes, notice_bytes}
use Rattle.slave_laws.specs.Talk.Ranges.{AreBytes, LineFits, LinesFit, ShelfFits, LogFits}
use Rattle.slave_laws.proofs.Talk.Bytes.{bytes_joined}

-- ---- lists of entries
lines_joined : (xs ys : List LogLine) → LinesFit xs → LinesFit ys → LinesFit (xs ++ ys)
lines_joined [] ys h k = k
lines_joined (x ∷ xs) ys h k = (h.0, lines_joined xs ys h.1 k)

lines_after : (n : ℕ) (xs : List LogLine) → LinesFit xs → LinesFit (drop n xs)
lines_after zero xs h = h
lines_after (suc n) [] h = tt
lines_after (suc n) (x ∷ xs) h = lines_after n xs h.1

lines_before : (n : ℕ) (xs : List LogLine) → LinesFit xs → LinesFit (take n xs)
lines_before zero xs h = tt
lines_before (suc n) [] h = tt
lines_before (suc n) (x ∷ xs) h = (h.0, lines_before n xs h.1)

-- ---- one category
put_fits : (s : Shelf) (e : LogLine) → LineFits e → ShelfFits s → ShelfFits (put s e)
put_fits s e f h = by (s.mode == 1)
  where
    by : (b : Bool) → ShelfFits (if b then shelf_counted s else record (shelf_counted s) { kept = newest 64 (s.kept ++ e ∷ []) })
    by true = record { lines = h.lines; few = h.few }
    by false = record {
      lines = lines_after (length (s.kept ++ e ∷ []) - 64) (s.kept ++ e ∷ []) (lines_joined s.kept (e ∷ []) h.lines (f, tt));
      few = omega (arith, length-drop (length (s.kept ++ e ∷ []) - 64) (s.kept ++ e ∷ []));
    }

pub shelf_fits : (log : Log) (category : ℕ) → LogFits log → ShelfFits (shelf log category)
shelf_fits log category h = by (category == 1) (category == 2)
  where
    by : (b c : Bool) → ShelfFits (if b then log.first else (if c then log.second else log.third))
    by true c = h.first
    by false true = h.second
    by false false = h.third

with_fits : (log : Log) (category : ℕ) (s : Shelf) → ShelfFits s → LogFits log → LogFits (with_shelf log category s)
with_fits log category s f h = by (category == 1) (category == 2)
  where
    by : (b c : Bool) → LogFits (if b then record log { first = s } else (if c then record log { second = s } else record log { third = s }))
    by true c = record { first = f; second = h.second; third = h.third }
    by false true = record { first = h.first; second = f; third = h.third }
    by false false = record { first = h.first; second = h.second; third = f }

pub noted_fits : (log : Log) (category level code step : ℕ) → category < 256 → level < 256 → code < 256 → LogFits log → LogFits (noted log category level code step)
noted_fits log category level code step a b c h = by (is_noted (shelf log category) level)
  where
    e : LogLine
    e = line (shelf log category).next category level code step

    by : (t : Bool) → LogFits (if t then with_shelf log category (put (shelf log category) e) else log)
    by true = with_fits log category (put (shelf log category) e) (put_fits (shelf log category) e (record { category = a; level = b; code = c }) (shelf_fits log category h)) h
    by false = h

set_fits : (level mode : ℕ) (s : Shelf) → ShelfFits s → ShelfFits (shelf_set_to level mode s)
set_fits level mode s h = record { lines = h.lines; few = h.few }

pub configured_fits : (log : Log) (category level mode : ℕ) → LogFits log → LogFits (log_configured log category level mode)
configured_fits log category level mode h = by (category == 0)
  where
    by : (b : Bool) → LogFits (if b then record { first = shelf_set_to level mode log.first; second = shelf_set_to level mode log.second; third = shelf_set_to level mode log.third } else with_shelf log category (shelf_set_to level mode (shelf log category)))
    by true = record { first = set_fits level mode log.first h.first; second = set_fits level mode log.second h.second; third = set_fits level mode log.third h.third }
    by false = with_fits log category (shelf_set_to level mode (shelf log category)) (set_fits level mode (shelf log category) (shelf_fits log category h)) h

pub left_fits : (log : Log) (category most : ℕ) → LogFits log → LogFits (left log category most)
left_fits log category most h =
    let s = shelf_fits log category h in
    let kept = (shelf log category).kept in
    with_fits log category (record (shelf log category) { kept = drop most kept }) (record { lines = lines_after most kept s.lines; few = omega (arith, length-drop most kept, s.few) }) h

-- ---- what is told of it
pub sent_fits : (log : Log) (category level code step : ℕ) → category < 256 → level < 256 → code < 256 → (e : LogLine) → to_send log category level code step ≡ Some e → LineFits e
sent_fits log category level code step a b c e h = by (is_noted (shelf log category) level && ((shelf log category).mode == 1)) h
  where
    one : LogLine
    one = line (shelf log category).next category level code step

    by : (t : Bool) → (if t then Some one else None) ≡ Some e → LineFits e
    by true k = let same : one ≡ e = cc in subst LineFits same (record { category = a; level = b; code = c })
    by false k = absurd cc

entry_are : (e : LogLine) → LineFits e → AreBytes (entry_bytes e)
unfolding digits
entry_are e f = (omega arith, (omega arith, (omega arith, (omega arith, (f.category, (f.level, (f.code, (omega arith, (omega arith, (omega arith, (omega arith, tt)))))))))))

entries_are : (es : List LogLine) → LinesFit es → AreBytes (entries_bytes es)
entries_are [] h = tt
entries_are (e ∷ es) h = bytes_joined (entry_bytes e) (entries_bytes es) (entry_are e h.0) (entries_are es h.1)

entry_length : (e : LogLine) → length (entry_bytes e) ≡ 11
unfolding digits
entry_length e = refl

entries_length : (es : List LogLine) → length (entries_bytes es) ≡ length es * 11
entries_length [] = refl
entries_length (e ∷ es) =
    let rest = entries_length es in
    let all = length-append (entry_bytes e) (entries_bytes es) in
    omega (arith, rest, all, entry_length e)

-- the entries that an answer tells
pub fetched_are : (log : Log) (category most : ℕ) → LogFits log → AreBytes (entries_bytes (fetched log category most))
fetched_are log category most h = entries_are (take most (shelf log category).kept) (lines_before most (shelf log category).kept (shelf_fits log category h).lines)

pub fetched_length : (log : Log) (category most : ℕ) → LogFits log → length (entries_bytes (fetched log category most)) ≤ 704
fetched_length log category most h =
    let kept = (shelf log category).kept in
    omega (arith, entries_length (take most kept), length-take most kept, (shelf_fits log category h).few)

pub notice_are : (e : LogLine) → LineFits e → AreBytes (notice_bytes e)
unfolding digits
notice_are e f = (omega arith, (omega arith, (omega arith, (omega arith, (f.code, (omega arith, (omega arith, (omega arith, (omega arith, tt)))))))))

pub notice_length : (e : LogLine) → length (notice_bytes e) ≡ 9
unfolding digits
notice_length e = refl
