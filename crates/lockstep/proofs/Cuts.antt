-- Rows that are stored one behind the other, and the row that is begun behind them.
use Rattle.std.proofs.Common.{◌≡◌, ℕ, ◌+◌, ◌*◌, ◌<◌, ◌≤◌, Some, List, [], ◌∷◌, ◌++◌, map, take, drop, get_or, length, sym, ◌∙◌, ap, arith, slice_get, ℤ, pos, length-drop}
use Rattle.std.specs.List.{range_with_len}
use Rattle.std.proofs.lemmas.Option.{slice_get-get_or, get_or_from_slice_get}
use Rattle.std.proofs.lemmas.List.{same_lists, take-append-le, drop-append-le, take_all, drop_all, get_or-take, get_or-drop}
use Rattle.std.proofs.lemmas.List.FromFn.{length-map-range_with_len, get_or-map-range_with_len, map-range_with_len_more}
use Rattle.std.proofs.lemmas.Int.{to_z-of_z}
use Rattle.std.proofs.lemmas.Nat.{rows}
use Rattle.std.proofs.lemmas.Grind.{common_steps}
use Rattle.lockstep.specs.Cut.{cut, behind_rows, Grid}

pub length-cut : (width count : ℕ) (values : List ℤ) → length (cut width count values) ≡ count
length-cut width count values = length-map-range_with_len (λ i. take width (drop (i * width) values)) 0 count

-- a row lies within what is stored
pub cut_within : (width count place : ℕ) (values : List ℤ) → place < count → count * width ≤ length values → place * width + width ≤ length values
cut_within width count place values lt e =
    let le : (place + 1) * width ≤ count * width = grind arith in
    omega (arith, le, e)

pub slice_get-cut : (width count place : ℕ) (values : List ℤ) → place < count → slice_get (cut width count values) place ≡ Some (take width (drop (place * width) values))
slice_get-cut width count place values lt =
    let within : place < length (cut width count values) = omega (arith, length-cut width count values) in
    slice_get-get_or (cut width count values) place [] within
    ∙ ap (λ (x : List ℤ). Some x) (get_or-map-range_with_len (λ i. take width (drop (i * width) values)) 0 count place place [] lt (omega arith))

-- the number of rows that are seen
pub count_seen : (width count : ℕ) (values : List ℤ) (rows : List (List ℤ)) → cut width count values ≡ rows → count ≡ length rows
count_seen width count values rows e = sym (length-cut width count values) ∙ ap (λ (x : List (List ℤ)). length x) e

pub seen_within : (width count place : ℕ) (values : List ℤ) (rows : List (List ℤ)) → cut width count values ≡ rows → count * width ≤ length values → place < length rows → place * width + width ≤ length values
seen_within width count place values rows e at lt =
    let n = count_seen width count values rows e in
    cut_within width count place values (omega (arith, n)) at

pub slice_get-seen : (width count place : ℕ) (values : List ℤ) (rows : List (List ℤ)) → cut width count values ≡ rows → place < length rows → slice_get rows place ≡ Some (take width (drop (place * width) values))
slice_get-seen width count place values rows e lt =
    let n = count_seen width count values rows e in
    ap (λ (x : List (List ℤ)). slice_get x place) (sym e) ∙ slice_get-cut width count place values (omega (arith, n))

-- a value of a row, by where it is stored
pub cell_at : (width count place column : ℕ) (values : List ℤ) → place < count → column < width →
    get_or (get_or (cut width count values) place []) column (pos 0) ≡ get_or values (place * width + column) (pos 0)
cell_at width count place column values lt below =
    let there = slice_get-cut width count place values lt in
    let found : get_or (cut width count values) place [] ≡ take width (drop (place * width) values) = get_or_from_slice_get (cut width count values) place (take width (drop (place * width) values)) [] there in
    ap (λ (x : List ℤ). get_or x column (pos 0)) found
    ∙ get_or-take width (drop (place * width) values) column (pos 0) below
    ∙ get_or-drop (place * width) values column (pos 0)

-- how the values of rows are found in what is stored
pub ruleset cells = (rows, common_steps, to_z-of_z, length-cut, cell_at)

cut_before : (width count place : ℕ) (values more : List ℤ) → place < count → count * width ≤ length values → take width (drop (place * width) (values ++ more)) ≡ take width (drop (place * width) values)
cut_before width count place values more lt e =
    let le : place * width + width ≤ length values = cut_within width count place values lt e in
    let dropped : drop (place * width) (values ++ more) ≡ drop (place * width) values ++ more = drop-append-le (place * width) values more (omega arith) in
    ap (λ (x : List ℤ). take width x) dropped
    ∙ take-append-le width (drop (place * width) values) more (omega (arith, length-drop (place * width) values))

map-agree_below : (f g : ℕ → List ℤ) (n : ℕ) → ((i : ℕ) → i < n → f i ≡ g i) → map f (range_with_len 0 n) ≡ map g (range_with_len 0 n)
map-agree_below f g n h =
    let lf = length-map-range_with_len f 0 n in
    let lg = length-map-range_with_len g 0 n in
    same_lists (map f (range_with_len 0 n)) (map g (range_with_len 0 n)) (lf ∙ sym lg)
    (λ k d lt. let below : k < n = omega (arith, lf) in
    get_or-map-range_with_len f 0 n k k d below (omega arith) ∙ h k below ∙ sym (get_or-map-range_with_len g 0 n k k d below (omega arith)))

-- what comes behind the rows leaves them as they are
pub cut-append : (width count : ℕ) (values more : List ℤ) → count * width ≤ length values → cut width count (values ++ more) ≡ cut width count values
cut-append width count values more e =
    map-agree_below (λ i. take width (drop (i * width) (values ++ more))) (λ i. take width (drop (i * width) values)) count
    (λ i lt. cut_before width count i values more lt e)

-- one more row, which is what stood behind the others
pub cut-close : (width count : ℕ) (values : List ℤ) → length (behind_rows width count values) ≡ width → cut width (count + 1) values ≡ cut width count values ++ behind_rows width count values ∷ []
cut-close width count values at =
    map-range_with_len_more (λ i. take width (drop (i * width) values)) 0 count count (omega arith)
    ∙ ap (λ (x : List ℤ). cut width count values ++ x ∷ []) (take_all width (behind_rows width count values) (omega (arith, at)))

-- a row that has its width fits behind the others, and nothing stands behind it
pub close-fits : (width count : ℕ) (values : List ℤ) → count * width ≤ length values → length (behind_rows width count values) ≡ width → (count + 1) * width ≡ length values
close-fits width count values e at =
    let long : length values ≡ count * width + width = omega (arith, at, length-drop (count * width) values) in
    let next : (count + 1) * width ≡ count * width + width = grind arith in
    next ∙ sym long

abbrev pub grid_of : ℕ → List (List ℤ) → List ℤ → Grid
grid_of width rows begun = record { width = width; rows = rows; begun = begun }

-- a table with one more value behind the row that is begun
pub grid-put : (width count : ℕ) (values more : List ℤ) (value : ℤ) (g : Grid) → grid_of width (cut width count values) (behind_rows width count values) ≡ g → count * width ≤ length values → more ≡ values ++ value ∷ [] →
    grid_of width (cut width count more) (behind_rows width count more) ≡ grid_of g.width g.rows (g.begun ++ value ∷ [])
grid-put width count values more value g e at stored =
    ap (λ (x : List ℤ). grid_of width (cut width count x) (behind_rows width count x)) stored
    ∙ ap (λ (x : List (List ℤ)). grid_of width x (behind_rows width count (values ++ value ∷ []))) (cut-append width count values (value ∷ []) at)
    ∙ ap (λ (x : List ℤ). grid_of width (cut width count values) x) (drop-append-le (count * width) values (value ∷ []) at)
    ∙ ap (λ (x : Grid). grid_of x.width x.rows (x.begun ++ value ∷ [])) e

-- the row that is begun, where it has the width
pub begun_full : (width count : ℕ) (values : List ℤ) (g : Grid) → grid_of width (cut width count values) (behind_rows width count values) ≡ g → length g.begun ≡ g.width → length (behind_rows width count values) ≡ width
begun_full width count values g e fits =
    ap (λ (x : Grid). length x.begun) e ∙ fits ∙ sym (ap (λ (x : Grid). x.width) e)

-- a table whose begun row is closed
pub grid-close : (width count : ℕ) (values : List ℤ) (g : Grid) → grid_of width (cut width count values) (behind_rows width count values) ≡ g → count * width ≤ length values → length g.begun ≡ g.width →
    grid_of width (cut width (count + 1) values) (behind_rows width (count + 1) values) ≡ grid_of g.width (g.rows ++ g.begun ∷ []) []
grid-close width count values g e at fits =
    let full = begun_full width count values g e fits in
    let end = close-fits width count values at full in
    ap (λ (x : List (List ℤ)). grid_of width x (behind_rows width (count + 1) values)) (cut-close width count values full)
    ∙ ap (λ (x : List ℤ). grid_of width (cut width count values ++ behind_rows width count values ∷ []) x) (drop_all ((count + 1) * width) values (omega (arith, end)))
    ∙ ap (λ (x : Grid). grid_of x.width (x.rows ++ x.begun ∷ []) []) e
