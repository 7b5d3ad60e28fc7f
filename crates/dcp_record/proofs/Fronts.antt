-- Bytes that end too early are fronts of traces and of entries.
use Rattle.std.proofs.Common.{◌≡◌, ℕ, zero, suc, ◌+◌, ◌-◌, ◌/◌, ◌%◌, ◌<◌, ◌≤◌, ◌^◌, ◌⊎◌, List, [], ◌∷◌, ◌++◌, length, take, drop, refl, sym, ap, ◌∙◌, append_assoc, inl, inr, arith}
use Rattle.std.specs.Int.{to_le_bytes, w16, w32}
use Rattle.std.proofs.lemmas.List.{take-append-drop, length-append, length-replicate, take_all, append-nil}
use Rattle.dcp_types.specs.declared.addresses.Address.{Address}
use Rattle.dcp_ends.specs.declared.entries.LogEntry.{LogEntry}
use Rattle.dcp_ends.specs.declared.entries.LogEntry.TheVariants.{Sent, Got, Idle, Turn}
use Rattle.dcp_record.specs.Traces.{form, address_bytes, payload_bytes, log_entry_bytes, all_entry_bytes, IsTraceAddress}
use Rattle.dcp_record.specs.declared.faults.TraceWhy.{TraceWhy}
use Rattle.dcp_record.specs.declared.faults.TraceWhy.TheVariants.{Header, Tag, Short, Length}
use Rattle.dcp_record.specs.Refusals.{HeaderCut, IsTruncated, HasBadLength, EntryRefused}
use Rattle.dcp_record.specs.Cuts.{ExchangeCut, ExchangeOut, ExchangeRefused}
use Rattle.dcp_record.specs.Laws.{IsBytes}
use Rattle.dcp_record.proofs.Joined.{all_entry_bytes-append}
use Rattle.dcp_record.proofs.Numbers.{zeros, filled, front_32, front_place, whole_from_nil}

-- the bytes end within the form
pub cut_in_form : (b : List ℕ) → length b < 5 → take (length b) b ≡ take (length b) form → HeaderCut b (length b)
cut_in_form b lt e =
    let n = length b in
    let same : b ≡ take n form = sym (take_all n b (omega arith)) ∙ e in
    let joined : b ++ drop n form ≡ form = ap (λ (l : List ℕ). l ++ drop n form) same ∙ take-append-drop n form in
    record {
      hosted = 0;
      scenario = [];
      missing = drop n form ++ zeros 8;
      here = refl;
      fits = omega arith;
      known = λ le. absurd (omega arith);
      measured = omega arith;
      lacks = omega (arith, length-append (drop n form) (zeros 8));
      whole = sym (append_assoc b (drop n form) (zeros 8)) ∙ ap (λ (l : List ℕ). l ++ zeros 8) joined;
    }

-- within the hosted ends
pub cut_in_hosted : (b rest : List ℕ) → b ≡ form ++ rest → IsBytes rest → length rest < 4 → HeaderCut b (length b)
cut_in_hosted b rest e h lt =
    let f = filled 4 rest h lt in
    let a = front_32 (rest ++ f.missing) f.bytes (omega (arith, f.size)) in
    let word : rest ++ f.missing ≡ to_le_bytes w32 a.number = whole_from_nil (rest ++ f.missing) (to_le_bytes w32 a.number) a.rest a.parts (omega (arith, a.size, f.size)) in
    let few : length b ≡ 5 + length rest = omega (arith, ap length e) in
    record {
      hosted = a.number;
      scenario = [];
      missing = f.missing ++ zeros 4;
      here = refl;
      fits = a.fits;
      known = λ le. absurd (omega arith);
      measured = omega arith;
      lacks = omega (arith, f.lacks, length-append f.missing (zeros 4));
      whole = ap (λ (l : List ℕ). l ++ (f.missing ++ zeros 4)) e ∙ ap (λ (l : List ℕ). form ++ l) (sym (append_assoc rest f.missing (zeros 4)) ∙ ap (λ (l : List ℕ). l ++ zeros 4) word);
    }

-- within the length of the scenario
pub cut_in_length : (b : List ℕ) (hosted : ℕ) (rest : List ℕ) → b ≡ form ++ to_le_bytes w32 hosted ++ rest → hosted < 2 ^ 17 → IsBytes rest → length rest < 4 → HeaderCut b (length b)
cut_in_length b hosted rest e known h lt =
    let f = filled 4 rest h lt in
    let a = front_32 (rest ++ f.missing) f.bytes (omega (arith, f.size)) in
    let word : rest ++ f.missing ≡ to_le_bytes w32 a.number = whole_from_nil (rest ++ f.missing) (to_le_bytes w32 a.number) a.rest a.parts (omega (arith, a.size, f.size)) in
    let text = zeros a.number in
    let long : length text ≡ a.number = length-replicate {A = ℕ} a.number 0 in
    let last : rest ++ (f.missing ++ text) ≡ to_le_bytes w32 (length text) ++ text =
    sym (append_assoc rest f.missing text) ∙ ap (λ (l : List ℕ). l ++ text) word ∙ ap (λ (n : ℕ). to_le_bytes w32 n ++ text) (sym long) in
    record {
      hosted = hosted;
      scenario = text;
      missing = f.missing ++ text;
      here = refl;
      fits = omega arith;
      known = λ le. known;
      measured = omega (arith, a.fits);
      lacks = omega (arith, f.lacks, length-append f.missing text);
      whole = ap (λ (l : List ℕ). l ++ (f.missing ++ text)) e ∙ ap (λ (l : List ℕ). form ++ to_le_bytes w32 hosted ++ l) last;
    }

-- within the scenario
pub cut_in_scenario : (b : List ℕ) (hosted size : ℕ) (rest : List ℕ) → b ≡ form ++ to_le_bytes w32 hosted ++ to_le_bytes w32 size ++ rest → hosted < 2 ^ 17 → size < 2 ^ 32 → length rest < size → HeaderCut b (length b)
cut_in_scenario b hosted size rest e known fits lt =
    let more = zeros (size - length rest) in
    let text = rest ++ more in
    let lack : length more ≡ size - length rest = length-replicate {A = ℕ} (size - length rest) 0 in
    let long : length text ≡ size = length-append rest more ∙ omega arith in
    record {
      hosted = hosted;
      scenario = text;
      missing = more;
      here = refl;
      fits = omega arith;
      known = λ le. known;
      measured = omega arith;
      lacks = omega arith;
      whole = ap (λ (l : List ℕ). l ++ more) e ∙ ap (λ (n : ℕ). form ++ to_le_bytes w32 hosted ++ to_le_bytes w32 n ++ text) (sym long);
    }

-- an address that ends too early, and what makes it whole
pub record PlaceCut (x : List ℕ) : Type 0 where
  pub place : Address
  pub missing : List ℕ
  pub fits : IsTraceAddress place
  pub lacks : 0 < length missing
  pub whole : x ++ missing ≡ address_bytes place

pub cut_in_place : (x : List ℕ) → IsBytes x → length x < 6 → PlaceCut x
cut_in_place x h lt =
    let f = filled 6 x h lt in
    let a = front_place (x ++ f.missing) f.bytes (omega (arith, f.size)) in
    record {
      place = a.place;
      missing = f.missing;
      fits = a.fits;
      lacks = f.lacks;
      whole = whole_from_nil (x ++ f.missing) (address_bytes a.place) a.rest a.parts (omega (arith, a.size, f.size));
    }

-- the address with the number 0 and the port 0
nowhere : Address
nowhere = record { ip = 0; port = 0 }

nowhere-fits : IsTraceAddress nowhere
unfolding nowhere
nowhere-fits = record { ip_fits = omega arith; port_fits = omega arith }

module _ (least most : ℕ) (low : least ≤ 1) (high : 1024 ≤ most) where
  pub cut_in_first : (x : List ℕ) → IsBytes x → length x < 6 → ExchangeCut least most x
  cut_in_first x h lt =
      let p = cut_in_place x h lt in
      let more = address_bytes nowhere ++ payload_bytes (zeros 1) in
      record {
        first = p.place;
        second = nowhere;
        payload = zeros 1;
        missing = p.missing ++ more;
        first_fits = p.fits;
        second_fits = nowhere-fits;
        low = omega arith;
        high = omega arith;
        lacks = omega (arith, p.lacks, length-append p.missing more);
        whole = sym (append_assoc x p.missing more) ∙ ap (λ (l : List ℕ). l ++ more) p.whole;
      }

  pub cut_in_second : (x : List ℕ) (first : Address) (rest : List ℕ) → x ≡ address_bytes first ++ rest → IsTraceAddress first → IsBytes rest → length rest < 6 → ExchangeCut least most x
  cut_in_second x first rest e fits h lt =
      let p = cut_in_place rest h lt in
      let more = payload_bytes (zeros 1) in
      record {
        first = first;
        second = p.place;
        payload = zeros 1;
        missing = p.missing ++ more;
        first_fits = fits;
        second_fits = p.fits;
        low = omega arith;
        high = omega arith;
        lacks = omega (arith, p.lacks, length-append p.missing more);
        whole = ap (λ (l : List ℕ). l ++ (p.missing ++ more)) e ∙ ap (λ (l : List ℕ). address_bytes first ++ l) (sym (append_assoc rest p.missing more) ∙ ap (λ (l : List ℕ). l ++ more) p.whole);
      }

  -- a payload whose length begins with these bytes, fewer than two
  record LengthCut (x : List ℕ) : Type 0 where
    pub payload : List ℕ
    pub missing : List ℕ
    pub least_or_more : least ≤ length payload
    pub most_or_fewer : length payload ≤ most
    pub lacks : 0 < length missing
    pub whole : x ++ missing ≡ payload_bytes payload

  one_byte : (c : ℕ) → c < 256 → LengthCut (c ∷ [])
  one_byte zero lt =
      let long : length (zeros 256) ≡ 256 = length-replicate {A = ℕ} 256 0 in
      record { payload = zeros 256; missing = 1 ∷ zeros 256; least_or_more = omega arith; most_or_fewer = omega arith; lacks = omega arith; whole = refl }
  one_byte (suc c) lt =
      let long : length (zeros (suc c)) ≡ suc c = length-replicate {A = ℕ} (suc c) 0 in
      let low_byte : length (zeros (suc c)) % 256 ≡ suc c = omega arith in
      let high_byte : length (zeros (suc c)) / 256 % 256 ≡ 0 = omega arith in
      record {
        payload = zeros (suc c);
        missing = 0 ∷ zeros (suc c);
        least_or_more = omega arith;
        most_or_fewer = omega arith;
        lacks = omega arith;
        whole = rw (low_byte, high_byte) refl;
      }

  length_cut : (x : List ℕ) → IsBytes x → length x < 2 → LengthCut x
  length_cut [] h lt = record { payload = zeros 1; missing = payload_bytes (zeros 1); least_or_more = omega arith; most_or_fewer = omega arith; lacks = omega arith; whole = refl }
  length_cut (c ∷ []) h lt = one_byte c (h 0)
  length_cut (c ∷ d ∷ x) h lt = absurd (omega arith)

  pub cut_in_size : (x : List ℕ) (first second : Address) (rest : List ℕ) → x ≡ address_bytes first ++ address_bytes second ++ rest → IsTraceAddress first → IsTraceAddress second → IsBytes rest → length rest < 2 → ExchangeCut least most x
  cut_in_size x first second rest e ff sf h lt =
      let p = length_cut rest h lt in
      record {
        first = first;
        second = second;
        payload = p.payload;
        missing = p.missing;
        first_fits = ff;
        second_fits = sf;
        low = p.least_or_more;
        high = p.most_or_fewer;
        lacks = p.lacks;
        whole = ap (λ (l : List ℕ). l ++ p.missing) e ∙ ap (λ (l : List ℕ). address_bytes first ++ address_bytes second ++ l) p.whole;
      }

  pub cut_in_payload : (x : List ℕ) (first second : Address) (size : ℕ) (rest : List ℕ) → x ≡ address_bytes first ++ address_bytes second ++ to_le_bytes w16 size ++ rest → IsTraceAddress first → IsTraceAddress second → least ≤ size → size ≤ most → length rest < size → ExchangeCut least most x
  cut_in_payload x first second size rest e ff sf ll lm lt =
      let more = zeros (size - length rest) in
      let text = rest ++ more in
      let lack : length more ≡ size - length rest = length-replicate {A = ℕ} (size - length rest) 0 in
      let long : length text ≡ size = length-append rest more ∙ omega arith in
      record {
        first = first;
        second = second;
        payload = text;
        missing = more;
        first_fits = ff;
        second_fits = sf;
        low = omega arith;
        high = omega arith;
        lacks = omega arith;
        whole = ap (λ (l : List ℕ). l ++ more) e ∙ ap (λ (n : ℕ). address_bytes first ++ address_bytes second ++ to_le_bytes w16 n ++ text) (sym long);
      }

pub out_is : (least most : ℕ) (b : List ℕ) (first second : Address) (size : ℕ) (more : List ℕ) → b ≡ address_bytes first ++ address_bytes second ++ to_le_bytes w16 size ++ more → size < 2 ^ 16 → (size < least) ⊎ (most < size) → ExchangeOut least most b
out_is least most b first second size more e fits out = record { first = first; second = second; size = size; more = more; fits = fits; parts = e; out = out }

-- entries that end too early
pub cut_in_sent : (x : List ℕ) → ExchangeCut 1 1024 x → IsTruncated (1 ∷ x)
cut_in_sent x k = record {
  entry = Sent k.first k.second k.payload;
  missing = k.missing;
  recordable = record { places = (k.first_fits, k.second_fits); in_range = (k.low, k.high) };
  some = omega arith;
  lacks = k.lacks;
  whole = ap (λ (l : List ℕ). 1 ∷ l) k.whole;
}

pub cut_in_got : (x : List ℕ) → ExchangeCut 0 1025 x → IsTruncated (2 ∷ x)
cut_in_got x k = record {
  entry = Got k.first k.second k.payload;
  missing = k.missing;
  recordable = record { places = (k.first_fits, k.second_fits); in_range = k.high };
  some = omega arith;
  lacks = k.lacks;
  whole = ap (λ (l : List ℕ). 2 ∷ l) k.whole;
}

pub cut_in_idle : (x : List ℕ) → IsBytes x → length x < 6 → IsTruncated (3 ∷ x)
cut_in_idle x h lt = let p = cut_in_place x h lt in record {
  entry = Idle p.place;
  missing = p.missing;
  recordable = record { places = p.fits; in_range = tt };
  some = omega arith;
  lacks = p.lacks;
  whole = ap (λ (l : List ℕ). 3 ∷ l) p.whole;
}

pub cut_in_turn : (x : List ℕ) → IsBytes x → length x < 6 → IsTruncated (4 ∷ x)
cut_in_turn x h lt = let p = cut_in_place x h lt in record {
  entry = Turn p.place;
  missing = p.missing;
  recordable = record { places = p.fits; in_range = tt };
  some = omega arith;
  lacks = p.lacks;
  whole = ap (λ (l : List ℕ). 4 ∷ l) p.whole;
}

-- lengths that are out of range
pub out_of : (tag least most : ℕ) (x : List ℕ) → ExchangeOut least most x → HasBadLength tag least most (tag ∷ x)
out_of tag least most x k = record { first = k.first; second = k.second; size = k.size; more = k.more; fits = k.fits; parts = ap (λ (l : List ℕ). tag ∷ l) k.parts; out = k.out }

pub sent_refused : (x : List ℕ) (why : TraceWhy) → ExchangeRefused 1 1024 x why → EntryRefused (1 ∷ x) why
sent_refused x Header h = absurd h
sent_refused x Tag h = absurd h
sent_refused x Length h = inl (out_of 1 1 1024 x h)
sent_refused x Short h = cut_in_sent x h

pub got_refused : (x : List ℕ) (why : TraceWhy) → ExchangeRefused 0 1025 x why → EntryRefused (2 ∷ x) why
got_refused x Header h = absurd h
got_refused x Tag h = absurd h
got_refused x Length h = inr (out_of 2 0 1025 x h)
got_refused x Short h = cut_in_got x h

-- one entry more
pub entries_more : (b : List ℕ) (es : List LogEntry) (rest : List ℕ) (tag : ℕ) (after : List ℕ) (entry : LogEntry) (next : List ℕ) → b ≡ all_entry_bytes es ++ rest → rest ≡ tag ∷ after → tag ∷ after ≡ log_entry_bytes entry ++ next
    → b ≡ all_entry_bytes (es ++ entry ∷ []) ++ next
entries_more b es rest tag after entry next e f g =
    e ∙ ap (λ (l : List ℕ). all_entry_bytes es ++ l) (f ∙ g) ∙ sym (append_assoc (all_entry_bytes es) (log_entry_bytes entry) next)
    ∙ ap (λ (l : List ℕ). l ++ next) (sym (all_entry_bytes-append es (entry ∷ []) ∙ ap (λ (l : List ℕ). all_entry_bytes es ++ l) (append-nil (log_entry_bytes entry))))

-- one part of a header after another
pub after_hosted : (b : List ℕ) (hosted : ℕ) (x y : List ℕ) → b ≡ form ++ x → x ≡ to_le_bytes w32 hosted ++ y → b ≡ form ++ to_le_bytes w32 hosted ++ y
after_hosted b hosted x y e f = e ∙ ap (λ (l : List ℕ). form ++ l) f

pub after_length : (b : List ℕ) (hosted size : ℕ) (x y z : List ℕ) → b ≡ form ++ x → x ≡ to_le_bytes w32 hosted ++ y → y ≡ to_le_bytes w32 size ++ z → b ≡ form ++ to_le_bytes w32 hosted ++ to_le_bytes w32 size ++ z
after_length b hosted size x y z e f g = after_hosted b hosted x y e f ∙ ap (λ (l : List ℕ). form ++ to_le_bytes w32 hosted ++ l) g
