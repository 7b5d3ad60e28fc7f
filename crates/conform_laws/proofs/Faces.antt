-- What is seen from outside of a slave of the definitions.
use Rattle.std.proofs.Common.{◌≡◌, zero, suc, ◌==◌, Bool, true, false, List, [], ◌∷◌, length, map, filter, Option, Some, None, refl, ap, sym, subst, arith, if◌then◌else◌, Contains}
use Rattle.std.proofs.lemmas.Bool.{eq-eqb}
use Rattle.dcp_types.specs.declared.fault_codes.FaultCode.{FaultCode}
use Rattle.dcp_types.specs.Codes.{fault_code}
use Rattle.slave_desc.specs.declared.descriptions.SlaveDesc.{SlaveDesc}
use Rattle.slave_spec.specs.declared.words.SlaveSetup.{SlaveSetup}
use Rattle.slave_spec.specs.Transport.{SlaveState, ErrorAck}
use Rattle.slave_spec.specs.Plants.{Plant, start_plant}
use Rattle.slave_spec.specs.Requests.{code_or_zero}
use Rattle.slave_spec.specs.Foreign.{ForeignPlant, ForeignState, fault_answers}
use Rattle.conform_laws.proofs.Shelves.{LogStands, empty_stands}

-- what is known of a machine, where its fault is known to be one of these and whether a setting of its log was accepted
abbrev pub face : Plant → List FaultCode → (logs : Bool) → ForeignPlant
face p faults logs = record { state = p.state; steps = p.steps; outputs_sent = p.outputs_sent; wires = p.wires; faults = faults; logs = logs }

abbrev pub faced : SlaveState Plant → List FaultCode → (logs : Bool) → ForeignState
faced x faults logs = record { session = x.session; served = x.served; quiet = x.quiet; inner = face x.inner faults logs }

abbrev pub FaultAmong : Option FaultCode → List FaultCode → Type 0
FaultAmong None faults = faults ≡ []
FaultAmong (Some code) faults = Contains faults code

-- what is behind the face
pub record Behind (d : SlaveDesc) (p : Plant) (faults : List FaultCode) (logs : Bool) : Type 0 where
  pub fault : FaultAmong p.fault faults
  pub log : LogStands logs p.log
  pub parameters : length p.model.parameters ≡ length d.parameters

pub start_behind : (s : SlaveSetup) → Behind s.desc (start_plant s) [] false
start_behind s = record { fault = refl; log = empty_stands; parameters = refl }

-- ---- elements of lists

pub first_one : {A : Type 0} (x : A) (xs : List A) → Contains (x ∷ xs) x
first_one x xs = (0, omega arith, refl)

pub later_one : {A : Type 0} (y : A) (xs : List A) (x : A) → Contains xs x → Contains (y ∷ xs) x
later_one y xs x (k, lt, e) = (suc k, omega (arith, lt), e)

-- an element is the first one, or one of the others
elements : {A : Type 0} (P : A → Type 0) (y : A) (xs : List A) (x : A) → Contains (y ∷ xs) x → (y ≡ x → P x) → (Contains xs x → P x) → P x
elements P y xs x (zero, lt, e) f g = f e
elements P y xs x (suc k, lt, e) f g = g (k, omega (arith, lt), e)

nothing_in : {A : Type 0} (x : A) → Contains [] x → ⊥
nothing_in x (k, lt, e) = absurd (omega (arith, lt))

-- the code of a fault among these may be named
pub code_named : (codes : List FaultCode) (code : FaultCode) → Contains codes code → Contains (map (λ (c : FaultCode). ErrorAck (fault_code c)) codes) (ErrorAck (fault_code code))
code_named [] code h = absurd (nothing_in code h)
code_named (c ∷ codes) code h =
    elements (λ (x : FaultCode). Contains (map (λ (y : FaultCode). ErrorAck (fault_code y)) (c ∷ codes)) (ErrorAck (fault_code x))) c codes code h
    (λ e. subst (λ (x : FaultCode). Contains (map (λ (y : FaultCode). ErrorAck (fault_code y)) (c ∷ codes)) (ErrorAck (fault_code x))) e (first_one (ErrorAck (fault_code c)) (map (λ (y : FaultCode). ErrorAck (fault_code y)) codes)))
    (λ k. later_one (ErrorAck (fault_code c)) (map (λ (y : FaultCode). ErrorAck (fault_code y)) codes) (ErrorAck (fault_code code)) (code_named codes code k))

pub fault_named : (o : Option FaultCode) (faults : List FaultCode) → FaultAmong o faults → Contains (fault_answers faults) (ErrorAck (code_or_zero o))
fault_named None faults h = subst (λ (l : List FaultCode). Contains (fault_answers l) (ErrorAck 0)) (sym h) (first_one (ErrorAck 0) [])
fault_named (Some code) [] h = absurd (nothing_in code h)
fault_named (Some code) (c ∷ codes) h = code_named (c ∷ codes) code h

-- and it is among those with its code
kept_among : (codes : List FaultCode) (code : FaultCode) → Contains codes code → Contains (filter (λ (c : FaultCode). fault_code c == fault_code code) codes) code
kept_among [] code h = absurd (nothing_in code h)
kept_among (c ∷ codes) code h =
    elements (λ (x : FaultCode). Contains (filter (λ (y : FaultCode). fault_code y == fault_code x) (c ∷ codes)) x) c codes code h
    (λ e. subst (λ (x : FaultCode). Contains (filter (λ (y : FaultCode). fault_code y == fault_code x) (c ∷ codes)) x) e
    (subst (λ (b : Bool). Contains (if b then c ∷ rest c else rest c) c) (sym (eq-eqb (fault_code c) (fault_code c) refl)) (first_one c (rest c))))
    (λ k. by (fault_code c == fault_code code) (kept_among codes code k))
  where
    rest : FaultCode → List FaultCode
    rest x = filter (λ (y : FaultCode). fault_code y == fault_code x) codes

    by : (b : Bool) → Contains (rest code) code → Contains (if b then c ∷ rest code else rest code) code
    by true k = later_one c (rest code) code k
    by false k = k

pub fault_kept : (o : Option FaultCode) (faults : List FaultCode) → FaultAmong o faults → FaultAmong o (filter (λ (c : FaultCode). fault_code c == code_or_zero o) faults)
fault_kept None faults h = ap (λ (l : List FaultCode). filter (λ (c : FaultCode). fault_code c == 0) l) h
fault_kept (Some code) faults h = kept_among faults code h
