-- Bytes are a trace or are refused.
use Rattle.std.proofs.Common.{◌≡◌, ◌≢◌, ℕ, zero, suc, ◌+◌, ◌-◌, ◌<◌, ◌≤◌, ◌^◌, ◌⊎◌, List, [], ◌∷◌, ◌++◌, length, get_or, take, drop, refl, sym, ap, ◌∙◌, append_assoc, inl, inr, arith}
use Rattle.std.specs.Int.{to_le_bytes, w16, w32}
use Rattle.std.proofs.lemmas.List.{take-append-drop, length-take-le}
use Rattle.std.proofs.lemmas.List.Elements.{All-nil, All-cons}
use Rattle.std.proofs.lemmas.Bool.{cases_lt, cases_eq}
use Rattle.dcp_types.specs.declared.addresses.Address.{Address}
use Rattle.dcp_ends.specs.declared.entries.LogEntry.{LogEntry}
use Rattle.dcp_ends.specs.declared.entries.LogEntry.TheVariants.{Sent, Got, Idle, Turn}
use Rattle.dcp_record.specs.declared.faults.TraceWhy.{TraceWhy}
use Rattle.dcp_record.specs.declared.faults.TraceWhy.TheVariants.{Header, Tag, Short, Length}
use Rattle.dcp_record.specs.Traces.{form, address_bytes, header_bytes, IsTraceAddress, log_entry_bytes, all_entry_bytes, IsTrace, IsRecordable}
use Rattle.dcp_record.specs.Refusals.{HeaderRefused, EntryRefused, entry_place, TraceRefusal}
use Rattle.dcp_record.specs.Cuts.{IsHead, IsExchange, ExchangeRefused, IsFirstEntry, AreEntries, BadEntry}
use Rattle.dcp_record.specs.Laws.{IsBytes}
use Rattle.dcp_record.proofs.Numbers.{front_16, front_32, front_place, bytes_behind, after_two}
use Rattle.dcp_record.proofs.Fronts.{cut_in_form, cut_in_hosted, cut_in_length, cut_in_scenario, cut_in_first, cut_in_second, cut_in_size, cut_in_payload, cut_in_idle, cut_in_turn, out_is, sent_refused, got_refused, after_hosted}
use Rattle.dcp_record.proofs.Behind.{fault_behind, whole_behind}
use Rattle.dcp_record.proofs.Next.{entry_some}

-- where bytes differ from a form, what is behind it, or that they end within it
abbrev Differs : List ℕ → List ℕ → Type 0
Differs b f = (at : ℕ) × (at < length f) × (at < length b) × (take at b ≡ take at f) × (get_or b at 0 ≢ get_or f at 0)

abbrev Follows : List ℕ → List ℕ → Type 0
Follows b f = (rest : List ℕ) × (b ≡ f ++ rest)

abbrev EndsWithin : List ℕ → List ℕ → Type 0
EndsWithin b f = (length b < length f) × (take (length b) b ≡ take (length b) f)

against_more : (x y : ℕ) (b f : List ℕ) → x ≡ y → Differs b f ⊎ (Follows b f ⊎ EndsWithin b f) → Differs (x ∷ b) (y ∷ f) ⊎ (Follows (x ∷ b) (y ∷ f) ⊎ EndsWithin (x ∷ b) (y ∷ f))
against_more x y b f e (inl d) = inl (suc d.0, omega (arith, d.1), omega (arith, d.2), (λ i. e i ∷ d.3 i), d.4)
against_more x y b f e (inr (inl h)) = inr (inl (h.0, λ i. e i ∷ h.1 i))
against_more x y b f e (inr (inr h)) = inr (inr (omega (arith, h.0), λ i. e i ∷ h.1 i))

against : (b f : List ℕ) → Differs b f ⊎ (Follows b f ⊎ EndsWithin b f)
against b [] = inr (inl (b, refl))
against [] (y ∷ f) = inr (inr (omega arith, refl))
against (x ∷ b) (y ∷ f) =
    elim (cases_eq x y) [
      | inl e ↦ against_more x y b f e (against b f)
      | inr ne ↦ inl (0, omega arith, omega arith, refl, ne)
    ]

-- a header with its scenario and what is behind them, or where the header is refused
abbrev HeadOr : List ℕ → Type 0
HeadOr b = ((hosted : ℕ) × (scenario : List ℕ) × (rest : List ℕ) × IsHead b hosted scenario rest) ⊎ ((at : ℕ) × HeaderRefused b at)

head_by_text : (b : List ℕ) (hosted size : ℕ) (rest : List ℕ) → b ≡ form ++ to_le_bytes w32 hosted ++ to_le_bytes w32 size ++ rest → hosted < 2 ^ 17 → size < 2 ^ 32 → HeadOr b
head_by_text b hosted size rest e known fits =
    elim (cases_lt (length rest) size) [
      | inl lt ↦ inr (length b, inr (inr (cut_in_scenario b hosted size rest e known fits lt)))
      | inr le ↦
          let text = take size rest in
          let long : length text ≡ size = length-take-le size rest le in
          inl (
            hosted,
            text,
            drop size rest,
            record {
              known = known;
              measured = omega arith;
              parts = e ∙ ap (λ (l : List ℕ). form ++ to_le_bytes w32 hosted ++ to_le_bytes w32 size ++ l) (sym (take-append-drop size rest)) ∙ ap (λ (n : ℕ). form ++ to_le_bytes w32 hosted ++ to_le_bytes w32 n ++ text ++ drop size rest) (sym long);
            },
          )
    ]

head_by_length : (b : List ℕ) (hosted : ℕ) (rest : List ℕ) → b ≡ form ++ to_le_bytes w32 hosted ++ rest → hosted < 2 ^ 17 → IsBytes rest → HeadOr b
head_by_length b hosted rest e known h =
    elim (cases_lt (length rest) 4) [
      | inl lt ↦ inr (length b, inr (inr (cut_in_length b hosted rest e known h lt)))
      | inr le ↦ let n = front_32 rest h le in head_by_text b hosted n.number n.rest (e ∙ ap (λ (l : List ℕ). form ++ to_le_bytes w32 hosted ++ l) n.parts) known n.fits
    ]

head_by_hosted : (b rest : List ℕ) → b ≡ form ++ rest → IsBytes rest → HeadOr b
head_by_hosted b rest e h =
    elim (cases_lt (length rest) 4) [
      | inl lt ↦ inr (length b, inr (inr (cut_in_hosted b rest e h lt)))
      | inr le ↦
          let n = front_32 rest h le in
          let f = after_hosted b n.number rest n.rest e n.parts in
          elim (cases_lt n.number (2 ^ 17)) as (λ _. HeadOr b) [
            | inl lt ↦ head_by_length b n.number n.rest f lt n.bytes
            | inr big ↦ inr (5, inr (inl (record { hosted = n.number; rest = n.rest; here = refl; beyond = big; fits = n.fits; parts = f })))
          ]
    ]

head_or : (b : List ℕ) → IsBytes b → HeadOr b
head_or b h =
    elim (against b form) [
      | inl d ↦ inr (d.0, inl (record { within = d.1; there = d.2; same = d.3; differs = d.4 }))
      | inr rest ↦ elim rest as (λ _. HeadOr b) [
        | inl f ↦ head_by_hosted b f.0 f.1 (bytes_behind b form f.0 f.1 h)
        | inr s ↦ inr (length b, inr (inr (cut_in_form b s.0 s.1)))
      ]
    ]

-- a datagram and what is behind it, or why there is none
abbrev ExchangeOr : ℕ → ℕ → List ℕ → Type 0
ExchangeOr least most b =
    ((first : Address) × (second : Address) × (payload : List ℕ) × (rest : List ℕ) × IsExchange least most b first second payload rest) ⊎ ((why : TraceWhy) × ExchangeRefused least most b why)

module _ (least most : ℕ) (low : least ≤ 1) (high : 1024 ≤ most) (b : List ℕ) (h : IsBytes b) where
  exchange_by_payload : (first second : Address) (size : ℕ) (rest : List ℕ) → b ≡ address_bytes first ++ address_bytes second ++ to_le_bytes w16 size ++ rest → IsTraceAddress first → IsTraceAddress second
      → least ≤ size → size ≤ most → ExchangeOr least most b
  exchange_by_payload first second size rest e ff sf ll lm =
      elim (cases_lt (length rest) size) [
        | inl lt ↦ inr (Short, cut_in_payload least most low high b first second size rest e ff sf ll lm lt)
        | inr le ↦
            let text = take size rest in
            let long : length text ≡ size = length-take-le size rest le in
            inl (
              first,
              second,
              text,
              drop size rest,
              record {
                first_fits = ff;
                second_fits = sf;
                low = omega arith;
                high = omega arith;
                parts = e ∙ ap (λ (l : List ℕ). address_bytes first ++ address_bytes second ++ to_le_bytes w16 size ++ l) (sym (take-append-drop size rest))
                    ∙ ap (λ (n : ℕ). address_bytes first ++ address_bytes second ++ to_le_bytes w16 n ++ text ++ drop size rest) (sym long);
              },
            )
      ]

  exchange_by_size : (first second : Address) (size : ℕ) (rest : List ℕ) → b ≡ address_bytes first ++ address_bytes second ++ to_le_bytes w16 size ++ rest → IsTraceAddress first → IsTraceAddress second
      → size < 2 ^ 16 → ExchangeOr least most b
  exchange_by_size first second size rest e ff sf fits =
      elim (cases_lt size least) [
        | inl lt ↦ inr (Length, out_is least most b first second size rest e fits (inl lt))
        | inr ll ↦ elim (cases_lt most size) as (λ _. ExchangeOr least most b) [
          | inl lt ↦ inr (Length, out_is least most b first second size rest e fits (inr lt))
          | inr lm ↦ exchange_by_payload first second size rest e ff sf ll lm
        ]
      ]

  exchange_by_second : (first second : Address) (rest : List ℕ) → b ≡ address_bytes first ++ address_bytes second ++ rest → IsTraceAddress first → IsTraceAddress second → IsBytes rest → ExchangeOr least most b
  exchange_by_second first second rest e ff sf hr =
      elim (cases_lt (length rest) 2) [
        | inl lt ↦ inr (Short, cut_in_size least most low high b first second rest e ff sf hr lt)
        | inr le ↦ let n = front_16 rest hr le in exchange_by_size first second n.number n.rest (e ∙ ap (λ (l : List ℕ). address_bytes first ++ address_bytes second ++ l) n.parts) ff sf n.fits
      ]

  exchange_by_first : (first : Address) (rest : List ℕ) → b ≡ address_bytes first ++ rest → IsTraceAddress first → IsBytes rest → ExchangeOr least most b
  exchange_by_first first rest e ff hr =
      elim (cases_lt (length rest) 6) [
        | inl lt ↦ inr (Short, cut_in_second least most low high b first rest e ff hr lt)
        | inr le ↦ let p = front_place rest hr le in exchange_by_second first p.place p.rest (after_two b first p.place rest p.rest e p.parts) ff p.fits p.bytes
      ]

  exchange_or : ExchangeOr least most b
  exchange_or =
      elim (cases_lt (length b) 6) [
        | inl lt ↦ inr (Short, cut_in_first least most low high b h lt)
        | inr le ↦ let p = front_place b h le in exchange_by_first p.place p.rest p.parts p.fits p.bytes
      ]

-- an entry and what is behind it, or why there is none
abbrev FirstOr : List ℕ → Type 0
FirstOr b = ((entry : LogEntry) × (rest : List ℕ) × IsFirstEntry b entry rest) ⊎ ((why : TraceWhy) × EntryRefused b why)

sent_or : (x : List ℕ) → ExchangeOr 1 1024 x → FirstOr (1 ∷ x)
sent_or x (inl k) = inl (Sent k.0 k.1 k.2, k.3, record { recordable = record { places = (k.4.first_fits, k.4.second_fits); in_range = (k.4.low, k.4.high) }; parts = ap (λ (l : List ℕ). 1 ∷ l) k.4.parts })
sent_or x (inr k) = inr (k.0, sent_refused x k.0 k.1)

got_or : (x : List ℕ) → ExchangeOr 0 1025 x → FirstOr (2 ∷ x)
got_or x (inl k) = inl (Got k.0 k.1 k.2, k.3, record { recordable = record { places = (k.4.first_fits, k.4.second_fits); in_range = k.4.high }; parts = ap (λ (l : List ℕ). 2 ∷ l) k.4.parts })
got_or x (inr k) = inr (k.0, got_refused x k.0 k.1)

idle_or : (x : List ℕ) → IsBytes x → FirstOr (3 ∷ x)
idle_or x h =
    elim (cases_lt (length x) 6) [
      | inl lt ↦ inr (Short, cut_in_idle x h lt)
      | inr le ↦ let p = front_place x h le in inl (Idle p.place, p.rest, record { recordable = record { places = p.fits; in_range = tt }; parts = ap (λ (l : List ℕ). 3 ∷ l) p.parts })
    ]

turn_or : (x : List ℕ) → IsBytes x → FirstOr (4 ∷ x)
turn_or x h =
    elim (cases_lt (length x) 6) [
      | inl lt ↦ inr (Short, cut_in_turn x h lt)
      | inr le ↦ let p = front_place x h le in inl (Turn p.place, p.rest, record { recordable = record { places = p.fits; in_range = tt }; parts = ap (λ (l : List ℕ). 4 ∷ l) p.parts })
    ]

first_or : (tag : ℕ) (x : List ℕ) → IsBytes x → FirstOr (tag ∷ x)
first_or zero x h = inr (Tag, record { tag = 0; more = x; parts = refl; unknown = inl (omega arith) })
first_or (suc zero) x h = sent_or x (exchange_or 1 1024 (omega arith) (omega arith) x h)
first_or (suc (suc zero)) x h = got_or x (exchange_or 0 1025 (omega arith) (omega arith) x h)
first_or (suc (suc (suc zero))) x h = idle_or x h
first_or (suc (suc (suc (suc zero)))) x h = turn_or x h
first_or (suc (suc (suc (suc (suc n))))) x h = inr (Tag, record { tag = suc (suc (suc (suc (suc n)))); more = x; parts = refl; unknown = inr (omega arith) })

-- entries to the end, or where one is refused
abbrev EntriesOr : ℕ → List ℕ → Type 0
EntriesOr start b = ((entries : List LogEntry) × AreEntries b entries) ⊎ ((at : ℕ) × (why : TraceWhy) × BadEntry start b at why)

refused_first : (start : ℕ) (b : List ℕ) (why : TraceWhy) → EntryRefused b why → EntriesOr start b
refused_first start b why k = inr (start + entry_place b why, why, record { entries = []; rest = b; recordable = All-nil IsRecordable; parts = refl; refused = k; here = omega arith })

entry_before : (start : ℕ) (b : List ℕ) (entry : LogEntry) (rest : List ℕ) → IsFirstEntry b entry rest → EntriesOr start rest → EntriesOr start b
entry_before start b entry rest f (inl k) = inl (entry ∷ k.0, record { recordable = All-cons IsRecordable entry k.0 f.recordable k.1.recordable; parts = f.parts ∙ ap (λ (l : List ℕ). log_entry_bytes entry ++ l) k.1.parts })
entry_before start b entry rest f (inr k) =
    let bad = k.2 in
    let before = log_entry_bytes entry in
    inr (
      start + length (before ++ all_entry_bytes bad.entries) + entry_place bad.rest k.1,
      k.1,
      record {
        entries = entry ∷ bad.entries;
        rest = bad.rest;
        recordable = All-cons IsRecordable entry bad.entries f.recordable bad.recordable;
        parts = f.parts ∙ ap (λ (l : List ℕ). before ++ l) bad.parts ∙ sym (append_assoc before (all_entry_bytes bad.entries) bad.rest);
        refused = bad.refused;
        here = refl;
      },
    )

entries_or : (most start : ℕ) (b : List ℕ) → length b ≤ most → IsBytes b → EntriesOr start b
entries_or most start [] le h = inl ([], record { recordable = All-nil IsRecordable; parts = refl })
entries_or zero start (c ∷ b) le h = absurd (omega arith)
entries_or (suc most) start (c ∷ b) le h =
    elim (first_or c b (λ i. h (suc i))) [
      | inl f ↦
          let shorter : length f.1 < length (c ∷ b) = omega (arith, entry_some f.0 f.1, ap length f.2.parts) in
          entry_before start (c ∷ b) f.0 f.1 f.2 (entries_or most start f.1 (omega arith) (bytes_behind (c ∷ b) (log_entry_bytes f.0) f.1 f.2.parts h))
      | inr k ↦ refused_first start (c ∷ b) k.0 k.1
    ]

abbrev TraceOr : List ℕ → Type 0
TraceOr b = ((hosted : ℕ) × (scenario : List ℕ) × (entries : List LogEntry) × IsTrace b hosted scenario entries) ⊎ ((at : ℕ) × (why : TraceWhy) × TraceRefusal b at why)

trace_by_entries : (b : List ℕ) (hosted : ℕ) (scenario rest : List ℕ) → IsHead b hosted scenario rest → EntriesOr (length b - length rest) rest → TraceOr b
trace_by_entries b hosted scenario rest head (inl k) = inl (hosted, scenario, k.0, whole_behind b hosted scenario rest head k.0 k.1)
trace_by_entries b hosted scenario rest head (inr k) = inr (k.0, k.1, fault_behind b hosted scenario rest head k.0 k.1 k.2)

pub trace_or : (b : List ℕ) → IsBytes b → TraceOr b
trace_or b h =
    elim (head_or b h) [
      | inl k ↦ trace_by_entries b k.0 k.1 k.2 k.3 (entries_or (length k.2) (length b - length k.2) k.2 (omega arith) (bytes_behind b (header_bytes k.0 (length k.1) ++ k.1) k.2 k.3.parts h))
      | inr k ↦ inr (k.0, Header, k.1)
    ]
