-- The promises of `specs/Promises.antt`. No name and no field's text holds a comma or a newline, so a line cut at its commas gives them back.
use Prim.Native.Nat.{ℕ, zero, suc, ◌+◌, ◌*◌, ◌-◌, ◌/◌, ◌%◌, ◌≤◌, ◌<◌}
use native.Mathlib.Omega.{arith}
use mathlib.Core.Bool.{Bool, true, false, ◌&&◌, not, cond}
use mathlib.Core.List.{List, [], ◌∷◌, ◌++◌, map, append-nil, append_assoc}
use mathlib.Core.Path.{◌≡◌, refl, sym, ap, ◌∙◌}
use lib.Dec.{leb, eqb}
use lib.ListN.{length, drop, get_or}
use borrow.Author.Tests.{leb-true, leb-false, eqb-true, ne_eqb}
use Rattle.std.specs.Prelude.{Result, Ok, Err}
use Rattle.octets.specs.Numbers.{Octets, big16, octets16, octets32}
use Rattle.octets.proofs.Numbers.{four-octets, number-back}
use Rattle.octets.specs.Parts.{same}
use Rattle.octets.proofs.Tests.{cases, both_hold, holds-both}
use Rattle.hexadecimal.specs.Hex.{digit_of, text_of, octets_of}
use Rattle.hexadecimal.proofs.Laws.{octets-back}
use Rattle.provisioning.specs.Message.{message_told, told}
use Rattle.provisioning.specs.Tables.{capabilities_values}
use Rattle.provisioning.specs.Promises.{number_octets}
use Rattle.provisioning.specs.declared.Message.{Message}
use Rattle.provisioning.specs.declared.Message.TheVariants as M
use Rattle.provisioning.specs.declared.MessageRefusal.{MessageRefusal}
use Rattle.provisioning.proofs.Promises.{capabilities-in-place, fields-are-octets}
use Rattle.line_fields.specs.Lines.{ascii, digits_up_to, decimal_of, hexadecimal_of, word_text, field_text, line_of}
use Rattle.line_fields.specs.declared.Word.{Word}
use Rattle.line_fields.specs.declared.Word.TheVariants as W
use Rattle.line_fields.specs.declared.Field.{Field}
use Rattle.line_fields.specs.declared.Field.TheVariants as F
use Rattle.stock_table.specs.declared.Row.{Row}
use Rattle.stock_table.specs.declared.Origin.{Origin}
use Rattle.std.specs.Prelude.{None}
use Rattle.stock_table.specs.Rows.{origin_of, unknown, row_of, record_row, message_word, word_of}
use Rattle.stock_table.specs.Columns.{columns, row_fields, header_line, row_line}
use Rattle.stock_table.specs.Promises.{is_one_line, RowsAreLines, cut_from, cut_at_commas, under, name_of, SameColumns, UnderColumn, RecordColumns, RecordsInPlace, NoteColumns, NotesInPlace, Source, row_for, RowsLoseNothing}

-- ---- texts with no comma and no newline

abbrev is_plain : List ℕ → Bool
is_plain [] = true
is_plain (c ∷ t) = not (eqb c 10) && (not (eqb c 44) && is_plain t)

abbrev all_plain : List (List ℕ) → Bool
all_plain [] = true
all_plain (t ∷ ts) = is_plain t && all_plain ts

not-true : (b : Bool) → not b ≡ true → b ≡ false
not-true true h = sym h
not-true false h = refl

-- such a text is cut nowhere
cut-text : (held t rest : List ℕ) → is_plain t ≡ true → cut_from held (t ++ rest) ≡ cut_from (held ++ t) rest
cut-text held [] rest p = rw (append-nil held)
cut-text held (c ∷ t) rest p =
    let h = both_hold {a = not (eqb c 10)} p in
    let k = both_hold {a = not (eqb c 44)} h.1 in
    rw (not-true (eqb c 10) h.0, not-true (eqb c 44) k.0) (cut-text (held ++ (c ∷ [])) t rest k.1 ∙ ap (λ (x : List ℕ). cut_from x rest) (append_assoc held (c ∷ []) t))

-- a line of such texts is cut into them
cut_line : (t : List ℕ) (ts : List (List ℕ)) → all_plain (t ∷ ts) ≡ true → cut_at_commas (line_of (t ∷ ts)) ≡ t ∷ ts
unfolding line_of
cut_line t [] p = cut-text [] t (10 ∷ []) (both_hold {a = is_plain t} p).0
cut_line t (u ∷ ts) p =
    let h = both_hold {a = is_plain t} p in
    cut-text [] t (44 ∷ line_of (u ∷ ts)) h.0 ∙ ap (λ (l : List (List ℕ)). t ∷ l) (cut_line u ts h.1)

-- and it is one line
one-text : (t rest : List ℕ) → is_plain t ≡ true → is_one_line (t ++ rest) ≡ is_one_line rest
one-text [] rest p = refl
one-text (c ∷ t) rest p =
    let h = both_hold {a = not (eqb c 10)} p in
    rw (not-true (eqb c 10) h.0) (one-text t rest (both_hold {a = not (eqb c 44)} h.1).1)

one_line : (t : List ℕ) (ts : List (List ℕ)) → all_plain (t ∷ ts) ≡ true → is_one_line (line_of (t ∷ ts)) ≡ true
unfolding line_of
one_line t [] p = one-text t (10 ∷ []) (both_hold {a = is_plain t} p).0
one_line t (u ∷ ts) p =
    let h = both_hold {a = is_plain t} p in
    one-text t (44 ∷ line_of (u ∷ ts)) h.0 ∙ one_line u ts h.1

-- ---- the texts of fields

plain-cons : (c : ℕ) (t : List ℕ) → 45 ≤ c → is_plain t ≡ true → is_plain (c ∷ t) ≡ true
plain-cons c t h p = rw (ne_eqb c 10 (λ e. absurd (omega arith)), ne_eqb c 44 (λ e. absurd (omega arith))) p

plain-append : (a b : List ℕ) → is_plain a ≡ true → is_plain b ≡ true → is_plain (a ++ b) ≡ true
plain-append [] b p q = q
plain-append (c ∷ a) b p q =
    let h = both_hold {a = not (eqb c 10)} p in
    let k = both_hold {a = not (eqb c 44)} h.1 in
    holds-both h.0 (holds-both k.0 (plain-append a b k.1 q))

plain-digits : (most n : ℕ) → is_plain (digits_up_to most n) ≡ true
plain-digits zero n = refl
plain-digits (suc most) n =
    cases (eqb n 0) (λ e. rw e)
    (λ e. rw e (plain-append (digits_up_to most (n / 10)) _ (plain-digits most (n / 10)) (plain-cons (48 + n % 10) [] (omega arith) refl)))

plain-decimal : (n : ℕ) → is_plain (decimal_of n) ≡ true
unfolding decimal_of
plain-decimal n = cases (eqb n 0) (λ e. rw e) (λ e. rw e (plain-digits n n))

digit-above : (v : ℕ) → 45 ≤ digit_of v
unfolding digit_of
digit-above v = cases (leb v 9) (λ e. rw e (omega arith)) (λ e. rw e (omega arith))

plain-text : (l : List ℕ) → is_plain (text_of l) ≡ true
plain-text [] = refl
plain-text (x ∷ l) =
    plain-cons (digit_of (x / 16)) (digit_of (x % 16) ∷ text_of l) (digit-above (x / 16))
    (plain-cons (digit_of (x % 16)) (text_of l) (digit-above (x % 16)) (plain-text l))

plain-hexadecimal : (l : List ℕ) → is_plain (hexadecimal_of l) ≡ true
plain-hexadecimal l = plain-text l

abbrev all_words : List Word
all_words =
    W.Record ∷ W.Repeated ∷ W.Conflict ∷ W.Message ∷ W.Refused ∷ W.Missing ∷ W.Unopened ∷ W.End
    ∷ W.Invite ∷ W.Capabilities ∷ W.Start ∷ W.PublicKey ∷ W.InputComplete ∷ W.Confirmation ∷ W.Random ∷ W.Data ∷ W.Complete ∷ W.Failed
    ∷ []

-- the word that a text spells
abbrev word_in : List Word → List ℕ → Word
word_in [] text = W.End
word_in (word ∷ more) text = cond (same (word_text word) text) word (word_in more text)

word-text : (word : Word) → (is_plain (word_text word) ≡ true) × (word_in all_words (word_text word) ≡ word)
unfolding word_text
word-text W.Record = (refl, refl)
word-text W.Repeated = (refl, refl)
word-text W.Conflict = (refl, refl)
word-text W.Message = (refl, refl)
word-text W.Refused = (refl, refl)
word-text W.Missing = (refl, refl)
word-text W.Unopened = (refl, refl)
word-text W.End = (refl, refl)
word-text W.Invite = (refl, refl)
word-text W.Capabilities = (refl, refl)
word-text W.Start = (refl, refl)
word-text W.PublicKey = (refl, refl)
word-text W.InputComplete = (refl, refl)
word-text W.Confirmation = (refl, refl)
word-text W.Random = (refl, refl)
word-text W.Data = (refl, refl)
word-text W.Complete = (refl, refl)
word-text W.Failed = (refl, refl)

plain-field : (field : Field) → is_plain (field_text field) ≡ true
unfolding field_text
plain-field F.Empty = refl
plain-field (F.Word word) = (word-text word).0
plain-field (F.Decimal n) = plain-decimal n
plain-field (F.Octet n) = plain-hexadecimal (n ∷ [])
plain-field (F.Pair n) = plain-hexadecimal (octets16 n)
plain-field (F.Number n) = plain-hexadecimal (octets32 n)

plain-fields : (fields : List Field) → all_plain (map field_text fields) ≡ true
plain-fields [] = refl
plain-fields (f ∷ fields) = holds-both (plain-field f) (plain-fields fields)

-- ---- the header and a row, cut

header-cut : cut_at_commas header_line ≡ map (λ c. ascii c.name) columns
unfolding header_line
header-cut = cut_line _ _ refl

row_cut : (row : Row) → cut_at_commas (row_line row) ≡ map field_text (row_fields row)
unfolding row_line
row_cut row = cut_line _ _ (plain-fields (row_fields row))

pub rows-are-lines : RowsAreLines
unfolding header_line row_line
rows-are-lines = (one_line _ _ refl, λ row. one_line _ _ (plain-fields (row_fields row)))

pub same-columns : SameColumns
same-columns = (ap length header-cut, λ row. ap length (row_cut row))

pub under-column : UnderColumn
under-column row = rw (header-cut, row_cut row)

module _ {l k : List ℕ} (h : l ≡ k) where
  at : (i : ℕ) → get_or l i 0 ≡ get_or k i 0
  at i = ap (λ (t : List ℕ). get_or t i 0) h

-- the text under the name of column i
under_at : (row : Row) (i : ℕ) → get_or (map (λ c. under c.name (row_line row)) columns) i [] ≡ get_or (map (λ c. field_text (c.field row)) columns) i []
under_at row i = ap (λ (l : List (List ℕ)). get_or l i []) (under-column row)

-- two octets, read as one number and written again
pair-back : (m : List ℕ) (i n : ℕ) → Octets m → n ≡ big16 m i → octets16 n ≡ get_or m i 0 ∷ get_or m (i + 1) 0 ∷ []
pair-back m i n o e =
    let high : n / 256 ≡ get_or m i 0 = omega (arith, o i, o (i + 1)) in
    let low : n % 256 ≡ get_or m (i + 1) 0 = omega (arith, o i, o (i + 1)) in
    rw (high, low)

pub records-in-place : RecordsInPlace
unfolding field_text word_text
records-in-place what line origin m o c accepted =
    let u = under_at (record_row what line origin c) in
    let f = at (capabilities-in-place m _ (ap told accepted)).fields in
    record {
      what_is = u 0;
      line_is = u 1;
      socket_is = u 2;
      id_is = u 3;
      number_is = u 4;
      refusal_is = u 5;
      message_is = u 6;
      elements = u 7 ∙ ap decimal_of (f 0);
      algorithms = u 8 ∙ ap hexadecimal_of (pair-back m 2 c.algorithms o (f 1));
      public_key_type = u 9 ∙ ap decimal_of (f 2);
      static_oob_type = u 10 ∙ ap decimal_of (f 3);
      output_oob_size = u 11 ∙ ap decimal_of (f 4);
      output_oob_action = u 12 ∙ ap hexadecimal_of (pair-back m 7 c.output_oob_action o (f 5));
      input_oob_size = u 13 ∙ ap decimal_of (f 6);
      input_oob_action = u 14 ∙ ap hexadecimal_of (pair-back m 10 c.input_oob_action o (f 7));
    }

-- a message's word is its name
message-name : (m : Message) → word_text (message_word m) ≡ ascii (name_of (message_told m))
unfolding word_text
message-name (M.Invite attention) = refl
message-name (M.Capabilities c) = refl
message-name (M.Start c) = refl
message-name (M.PublicKey x y) = refl
message-name M.InputComplete = refl
message-name (M.Confirmation c) = refl
message-name (M.Random r) = refl
message-name (M.Data d mic) = refl
message-name M.Complete = refl
message-name (M.Failed code) = refl

word-name : (m : Result Message MessageRefusal) → field_text (word_of m) ≡ ascii (name_of (told m))
unfolding field_text
word-name (Ok m) = message-name m
word-name (Err r) = refl

-- a row that has no fields
note-columns : (what : Word) (line : Field) (origin : Origin) (refusal message : Field)
    → NoteColumns what (field_text line) origin (field_text refusal) (field_text message) (row_line (row_of what line origin refusal message None))
unfolding field_text word_text
note-columns what line origin refusal message =
    let row = row_of what line origin refusal message None in
    let u = under_at row in
    record {
      what_is = u 0;
      line_is = u 1;
      socket_is = u 2;
      id_is = u 3;
      number_is = u 4;
      refusal_is = u 5;
      message_is = u 6;
      no_fields = ap (drop 7) (row_cut row);
    }

pub notes-in-place : NotesInPlace
unfolding field_text
notes-in-place = record {
  refusals = λ line origin n. note-columns W.Refused (F.Decimal line) origin (F.Decimal n) F.Empty;
  messages = λ line origin m. rw (← (word-name m)) (note-columns W.Message (F.Decimal line) origin F.Empty (word_of m));
  sockets = λ what s. note-columns what F.Empty (origin_of (F.Decimal s.0) F.Empty F.Empty) F.Empty F.Empty;
  end = λ lines. note-columns W.End (F.Decimal lines) unknown F.Empty F.Empty;
}

-- ---- texts read back

-- the number that decimal digits write, behind v
abbrev read_from : ℕ → List ℕ → ℕ
read_from v [] = v
read_from v (d ∷ l) = read_from (10 * v + (d - 48)) l

read-append : (v : ℕ) (l : List ℕ) (d : ℕ) → read_from v (l ++ (d ∷ [])) ≡ 10 * read_from v l + (d - 48)
read-append v [] d = refl
read-append v (c ∷ l) d = read-append (10 * v + (c - 48)) l d

read-digits : (most n : ℕ) → n ≤ most → read_from 0 (digits_up_to most n) ≡ n
read-digits zero n h = omega arith
read-digits (suc most) n h =
    cases (leb n 0) (λ e. let z : n ≡ 0 = omega (arith, leb-true n 0 e) in rw z)
    (λ e. let some : 1 ≤ n = leb-false n 0 e in
    rw (ne_eqb n 0 (λ z. absurd (omega arith)), read-append 0 (digits_up_to most (n / 10)) (48 + n % 10), read-digits most (n / 10) (omega arith)) (omega arith))

read-decimal : (n : ℕ) → read_from 0 (decimal_of n) ≡ n
unfolding decimal_of
read-decimal n = cases (eqb n 0) (λ e. let z : n ≡ 0 = eqb-true n 0 e in rw z) (λ e. rw e (read-digits n n (omega arith)))

decimal-same : (n k : ℕ) → decimal_of n ≡ decimal_of k → n ≡ k
decimal-same n k h = sym (read-decimal n) ∙ ap (read_from 0) h ∙ read-decimal k

hexadecimal-same : (l k : List ℕ) → Octets l → Octets k → hexadecimal_of l ≡ hexadecimal_of k → l ≡ k
hexadecimal-same l k p q h = sym (octets-back l p) ∙ ap (λ (t : List ℕ). octets_of (drop 2 t)) h ∙ octets-back k q

one-octet : (n : ℕ) → n < 256 → Octets (n ∷ [])
one-octet n h zero = h
one-octet n h (suc i) = omega arith

two-octets : (m : List ℕ) (i j : ℕ) → Octets m → Octets (get_or m i 0 ∷ get_or m j 0 ∷ [])
two-octets m i j o zero = o i
two-octets m i j o (suc k) = one-octet (get_or m j 0) (o j) k

octet-same : (n k : ℕ) → n < 256 → k < 256 → hexadecimal_of (n ∷ []) ≡ hexadecimal_of (k ∷ []) → n ≡ k
octet-same n k p q h = at (hexadecimal-same (n ∷ []) (k ∷ []) (one-octet n p) (one-octet k q) h) 0

number_same : (n k : ℕ) → n < 4294967296 → k < 4294967296 → hexadecimal_of (octets32 n) ≡ hexadecimal_of (octets32 k) → n ≡ k
number_same n k p q h =
    let e = at (hexadecimal-same (octets32 n) (octets32 k) (four-octets n p) (four-octets k q) h) in
    sym (number-back n) ∙ (λ i. (e 0 i * 256 + e 1 i) * 65536 + (e 2 i * 256 + e 3 i)) ∙ number-back k

-- ---- a row loses nothing

-- the row shows the source
abbrev Shows : Source → List ℕ → Type 0
Shows x row = RecordColumns x.what x.line (row_for x).origin x.octets row

shown : (x : Source) → Shows x (row_line (row_for x))
shown x = records-in-place x.what x.line (row_for x).origin x.octets x.are_octets x.capabilities x.accepted

-- a Capabilities message by its fields
abbrev octets_for : List ℕ → List ℕ
octets_for values = 1 ∷ number_octets (1 ∷ 2 ∷ 1 ∷ 1 ∷ 1 ∷ 2 ∷ 1 ∷ 2 ∷ []) values

octets-of : (x : Source) → x.octets ≡ octets_for (capabilities_values x.octets)
octets-of x =
    let says = ap told x.accepted in
    (fields-are-octets x.octets x.are_octets).capabilities _ says ∙ ap octets_for (capabilities-in-place x.octets _ says).fields

-- two octets that a column shows
pair_same : (x y : Source) (i j : ℕ)
    → hexadecimal_of (get_or x.octets i 0 ∷ get_or x.octets j 0 ∷ []) ≡ hexadecimal_of (get_or y.octets i 0 ∷ get_or y.octets j 0 ∷ [])
    → get_or x.octets i 0 ∷ get_or x.octets j 0 ∷ [] ≡ get_or y.octets i 0 ∷ get_or y.octets j 0 ∷ []
pair_same x y i j h = hexadecimal-same _ _ (two-octets x.octets i j x.are_octets) (two-octets y.octets i j y.are_octets) h

same-octets : (x y : Source) (row : List ℕ) → Shows x row → Shows y row → x.octets ≡ y.octets
same-octets x y row r s =
    let elements = decimal-same _ _ (sym r.elements ∙ s.elements) in
    let algorithms = at (pair_same x y 2 3 (sym r.algorithms ∙ s.algorithms)) in
    let key_type = decimal-same _ _ (sym r.public_key_type ∙ s.public_key_type) in
    let static_type = decimal-same _ _ (sym r.static_oob_type ∙ s.static_oob_type) in
    let output_size = decimal-same _ _ (sym r.output_oob_size ∙ s.output_oob_size) in
    let output_action = at (pair_same x y 7 8 (sym r.output_oob_action ∙ s.output_oob_action)) in
    let input_size = decimal-same _ _ (sym r.input_oob_size ∙ s.input_oob_size) in
    let input_action = at (pair_same x y 10 11 (sym r.input_oob_action ∙ s.input_oob_action)) in
    octets-of x
    ∙ (λ i. octets_for (elements i
    ∷ (algorithms 0 i * 256 + algorithms 1 i)
    ∷ key_type i
    ∷ static_type i
    ∷ output_size i
    ∷ (output_action 0 i * 256 + output_action 1 i)
    ∷ input_size i
    ∷ (input_action 0 i * 256 + input_action 1 i)
    ∷ []))
    ∙ sym (octets-of y)

same_word : (word other : Word) → word_text word ≡ word_text other → word ≡ other
same_word word other h = sym (word-text word).1 ∙ ap (word_in all_words) h ∙ (word-text other).1

pub rows-lose-nothing : RowsLoseNothing
unfolding field_text
rows-lose-nothing x y h =
    let r = shown x in
    let s : Shows y (row_line (row_for x)) = rw h (shown y) in (
      same-octets x y (row_line (row_for x)) r s,
      same_word x.what y.what (sym r.what_is ∙ s.what_is),
      decimal-same x.line y.line (sym r.line_is ∙ s.line_is),
      decimal-same x.socket y.socket (sym r.socket_is ∙ s.socket_is),
      number_same x.id y.id x.id_range y.id_range (sym r.id_is ∙ s.id_is),
      octet-same x.number y.number x.number_range y.number_range (sym r.number_is ∙ s.number_is),
    )
