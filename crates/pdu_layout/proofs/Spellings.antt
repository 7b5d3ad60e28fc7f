-- The parts of a message and its spelling.
use Rattle.std.proofs.Common.{◌≡◌, ℕ, suc, ◌+◌, ◌≤◌, List, [], ◌∷◌, length, map, refl, sym, ap, subst, ◌∙◌, arith, Option, Some, drop, get_or}
use Rattle.pdu_layout.specs.declared.fields.FieldKind.{FieldKind}
use Rattle.pdu_layout.specs.declared.fields.Field.{Field}
use Rattle.pdu_layout.specs.declared.message_parts.Parts.{Parts}
use Rattle.pdu_layout.specs.Fields.{spelled, FitEach, FieldValue}
use Rattle.pdu_layout.specs.Table.{kinds_of, kinds_in, kinds_for, rows_of}
use Rattle.pdu_layout.specs.Message.{Message, Spells, HasSpelling}
use Rattle.pdu_layout.specs.Parts.{values_of, AreParts}
use Rattle.pdu_layout.specs.Ranges.{Fill}

pub kinds_of_rows : (fields : List Field) → map (λ r. r.kind) (rows_of fields) ≡ kinds_of fields
kinds_of_rows [] = refl
kinds_of_rows (f ∷ fields) = ap (λ l. f.kind ∷ l) (kinds_of_rows fields)

pub kinds_listed : (p : Message) (parts : Parts) → AreParts p parts → kinds_for parts.code ≡ Some (kinds_of parts.fields.now)
kinds_listed p parts a = ap kinds_in a.row ∙ ap (λ (l : List FieldKind). Some l) (kinds_of_rows parts.fields.now)

pub same_kinds : (x y : List FieldKind) (o : Option (List FieldKind)) → o ≡ Some x → o ≡ Some y → x ≡ y
same_kinds x y o e f = cc

pub spelling_of : (p : Message) (parts : Parts) → AreParts p parts → Fill (kinds_of parts.fields.now) (values_of parts) → HasSpelling p
spelling_of p parts a f =
    let kinds = kinds_of parts.fields.now in
    subst HasSpelling (sym a.message) (parts.code ∷ spelled kinds 0 (values_of parts), record { kinds = kinds; listed = kinds_listed p parts a; fits = f.0; bytes = refl; at_most = omega (arith, f.1) })

pub fill_of : (p : Message) (parts : Parts) → AreParts p parts → HasSpelling p → Fill (kinds_of parts.fields.now) (values_of parts)
fill_of p parts a h =
    let kinds = kinds_of parts.fields.now in
    let g : HasSpelling (record { code = parts.code; values = values_of parts }) = subst HasSpelling a.message h in
    let s = g.1 in
    let e : s.kinds ≡ kinds = same_kinds s.kinds kinds (kinds_for parts.code) s.listed (kinds_listed p parts a) in
    let size : length g.0 ≡ suc (length (spelled s.kinds 0 (values_of parts))) = ap length s.bytes in
    let most = s.at_most in
    (subst (λ l. FitEach l 0 (values_of parts)) e s.fits, subst (λ l. length (spelled l 0 (values_of parts)) ≤ 1023) e (omega (arith, size, most)))
