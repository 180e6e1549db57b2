-- Refused maps and events: what was read up to the lost row goes on with each kind that is told.
use mathlib.Core.Path.{◌≡◌, refl, sym, ap, ◌∙◌, subst}
use mathlib.Core.Bool.{Bool, true, false, not, cond, true≢false}
use mathlib.Core.List.{List, [], ◌∷◌, ◌++◌, append_assoc}
use Prim.Native.Nat.{ℕ, zero, suc, ◌+◌, ◌-◌, ◌^◌, ◌≤◌}
use native.Mathlib.Omega.{arith}
use lib.Dec.{eqb, leb}
use lib.ListN.{length}
use borrow.Author.Tests.{eqb-true}
use Rattle.rules.specs.declared.Syntax.{Syntax}
use Rattle.rules.specs.declared.Syntax.TheVariants.{MapTypeUnknown, NotType, MaxNegative, OutOfRange, ShiftCount, MapLacks, NotEventType}
use Rattle.rules.specs.Kinds.{TypeU32, TypeU64, TypeI32, TypeI64, KeywordMap, KeywordType, KeywordKey, KeywordValue, KeywordMax, KeywordEvent, LBrace, RBrace, Colon, Dot, Semicolon, LBracket, RBracket, Shr, Shl, Identifier, Number, KeywordBytes, Eof}
use Rattle.rules.specs.Tree.{Tok, sign, name, value, spelling_of, bits_in, Tree, map_type, typed, limit, first, shifted, map_decl, plain_field, bytes_field, array_field, event, yield, map_type_number, max_bits, type_of, typed_by, limit_of, lacking}
use Rattle.rules.specs.Refusals.{syntax_number}
use Rattle.rules.specs.Fits.{only, has, shifts, event_fields, map_fields, types, event_types, set_told}
use Rattle.rules.specs.Parse
use Rattle.rules.specs.Parse.{ok, P, many, is_shift, is_type, is_typed, most32, FieldLead, typing, keying, limiting, nothing, field_lead, EventLead, type_lead, bytes_lead, no_lead, event_lead, tok_at, kind_at}
use Rattle.rules.specs.Grammar.{Nt, Chain, MapField, MapFields, EventField, EventFields, Decl, Is, i_first, i_shifted, i_type, i_typed, i_limit, i_no_fields, i_fields, i_plain_field, i_bytes_field, i_array_field, i_no_event_fields, i_event_fields, i_map, i_event}
use Rattle.theory_grammar.specs.Lost.{is_misfit, is_check, lost, own}
use Rattle.theory_grammar.proofs.Leads.{FieldIs, field_is, EventIs, event_is, shift_mark, typed_mark, type_mark}
use Rattle.theory_grammar.proofs.Runs.{Run, run_none, row, name_row, value_row, ◌▸◌, all_any, all_both}
use Rattle.theory_grammar.proofs.Sound.{Reads, reads, run_of, chain_next, chain_sound, map_field_sound, event_field_sound}
use Rattle.theory_grammar.proofs.Local.{type_lost, ChainEnd, chain_end, map_field_local, event_field_local}
use Rattle.theory_grammar.proofs.Members.{done, ◌and◌, each, holds}
use Rattle.theory_grammar.proofs.Grow.{heads, map_field_kinds, map_field_begins, event_field_begins, map_fields_else, event_fields_else, aside}
use Rattle.theory_grammar.proofs.Begun.{fitting, any_next, lax, emptied, i_emptied, hash, filled, i_hash, i_filled, Open, opened, fields, top, Halt, wrap, loosely}
use Rattle.theory_grammar.proofs.Halts.{Stuck, stuck_as, then_stuck, Dooms, Refusal, Refused, misfit, want_in_halt, want_halt, named_halt, valued_halt, last_halt}
use Rattle.theory_grammar.proofs.GoesOnList.{Thing, inside, strange, braced_stuck}

module _ (ts : List Tok) where
  -- ---- maps

  -- a check is told in a map or an event: it is not 31
  checked : {k : ℕ} (D : ℕ → Type 0) (N : Nt) (i r : ℕ) (why : Syntax) (s : ℕ) → is_check why ≡ true → is_misfit why ≡ false
      → eqb (syntax_number why) 31 ≡ false
      → s ≡ lost ts why r → Open true false ts N 64 i s k → Halt fields D ts N 64 i why r
  checked {k} D N i r why s b m x e o = record {
    row = s;
    at = own e;
    arises = λ q. true≢false (sym (ap (λ (y : Syntax). eqb (syntax_number y) 31) q) ∙ x);
    wish = 0;
    due = λ q. absurd (true≢false (sym q ∙ m));
    begun = λ n q. subst (λ (y : Bool). Open y (is_misfit why) ts N 64 i s n) (sym b)
        (subst (λ (y : Bool). Open true y ts N 64 i s n) (sym m) (any_next o));
    dooms = λ q. absurd (true≢false (sym (ap (λ (y : Syntax). eqb (syntax_number y) 31) q) ∙ x));
  }

  -- the chain c with one more shift, whose sign is at row k
  next_shift : (b x : Bool) (i : ℕ) (c : Tree) (k : ℕ) → Reads ts Chain 64 i c k → is_shift (kind_at ts k) ≡ true
      → Open b x ts Chain 64 i (k + 1) Number
  unfolding yield
  next_shift b x i c k r s =
      fitting Number (shifted (kind_at ts k) c 0) (i_shifted (lax x r.is) s (λ _. refl)) (value 0 ∷ [])
      (sym (append_assoc (yield c) (sign (kind_at ts k) ∷ []) (value 0 ∷ [])))
      (run_of r ▸ row ts k (kind_at ts k) refl (shift_mark (kind_at ts k) s)) refl

  count_by : (D : ℕ → Type 0) (b : Bool) (i : ℕ) (c : Tree) (k v : ℕ) → Reads ts Chain 64 i c k → is_shift (kind_at ts k) ≡ true
      → Stuck (Halt fields D ts Chain 64 i) (Parse.count_by ts b c k v (k + 1 + 1))
  unfolding Parse.count_by is_check is_misfit lost
  count_by D true i c k v r s = tt
  count_by D false i c k v r s = checked D Chain i (k + 1) ShiftCount (k + 1) refl refl refl refl (next_shift true false i c k r s)

  chain_step : (D : ℕ → Type 0) (i : ℕ) (c : Tree) (k : ℕ) → Reads ts Chain 64 i c k → is_shift (kind_at ts k) ≡ true
      → Stuck (Halt fields D ts Chain 64 i) (Parse.chain_step ts c k)
  unfolding Parse.chain_step
  chain_step D i c k r s =
      valued_halt ts fields D Chain 64 i _ (k + 1) (next_shift false true i c k r s)
      (λ e. count_by D (leb (bits_in (tok_at ts (k + 1))) 63) i c k _ r s)

  chain_loop : (D : ℕ → Type 0) (i f : ℕ) (b : Bool) (c : Tree) (k : ℕ) → is_shift (kind_at ts k) ≡ b → Reads ts Chain 64 i c k
      → Stuck (Halt fields D ts Chain 64 i) (many (λ r. is_shift (kind_at ts r)) (Parse.chain_step ts) f b c k)
  unfolding many
  chain_loop D i zero b c k e r = tt
  chain_loop D i (suc f) false c k e r = tt
  chain_loop D i (suc f) true c k e r =
      then_stuck (Halt fields D ts Chain 64 i) (Reads ts Chain 64 i) (Parse.chain_step ts c k)
      (λ u m. many (λ r. is_shift (kind_at ts r)) (Parse.chain_step ts) f (is_shift (kind_at ts m)) u m)
      (chain_next ts i c k r e) (chain_step D i c k r e) (λ u m q v. chain_loop D i f (is_shift (kind_at ts m)) u m refl v)

  chain_stuck : (D : ℕ → Type 0) (i : ℕ) → i ≤ length ts → Stuck (Halt fields D ts Chain 64 i) (Parse.chain ts i)
  unfolding Parse.chain Parse.loop yield
  chain_stuck D i h =
      valued_halt ts fields D Chain 64 i _ i (fitting Number (first 0) i_first (value 0 ∷ []) refl (run_none ts i h) refl) (λ e.
      chain_loop D i (suc (length ts)) (is_shift (kind_at ts (i + 1))) _ (i + 1) refl (reads i_first (value_row ts i e)))

  -- behind the name at row j
  type_by : (D : ℕ → Type 0) (b : Bool) (i : ℕ) (w : List ℕ) (j : ℕ) → Run ts i (sign KeywordType ∷ sign Colon ∷ sign Dot ∷ []) j
      → Run ts j (name w ∷ []) (j + 1)
      → eqb (map_type_number w) 0 ≡ b → Stuck (Halt fields D ts MapField 64 i) (Parse.type_by ts b w (j + 1))
  unfolding Parse.type_by yield is_check is_misfit lost
  type_by D true i w j x y b =
      checked D MapField i (j + 1) MapTypeUnknown j refl refl refl (omega arith)
      (opened (map_type hash) i_hash (name hash ∷ sign Semicolon ∷ []) refl x)
  type_by D false i w j x y b =
      last_halt ts fields D MapField 64 i Semicolon (map_type w) (j + 1)
      (fitting Semicolon (map_type w) (i_type aside) (sign Semicolon ∷ []) refl (x ▸ y) refl)

  key_by : (D : ℕ → Type 0) (b : Bool) (i : ℕ) → is_typed (kind_at ts i) ≡ true → kind_at ts (i + 1) ≡ Colon
      → is_type (kind_at ts (i + 1 + 1)) ≡ b
      → Stuck (Halt fields D ts MapField 64 i) (Parse.key_by ts b (kind_at ts i) (i + 1 + 1))
  unfolding Parse.key_by yield is_check is_misfit set_told
  key_by D true i e f b =
      last_halt ts fields D MapField 64 i Semicolon _ (i + 1 + 1 + 1)
      (fitting Semicolon (typed (kind_at ts i) (kind_at ts (i + 1 + 1))) (i_typed e b) (sign Semicolon ∷ []) refl
      (row ts i (kind_at ts i) refl (typed_mark (kind_at ts i) e) ▸ row ts (i + 1) Colon f refl ▸ row ts (i + 1 + 1) (kind_at ts (i + 1 + 1))
      refl
      (type_mark (kind_at ts (i + 1 + 1)) b)) refl)
  key_by D false i e f b =
      misfit ts fields D MapField 64 i NotType (cond (eqb (kind_at ts (i + 1 + 1)) Eof) (i + 1 + 1) (i + 1 + 1 + 1)) (i + 1 + 1) TypeU32
      refl refl
      (sym (type_lost ts i e f (eqb (kind_at ts (i + 1 + 1)) Eof))) (holds types TypeU32 refl)
      (each (Open false true ts MapField 64 i (i + 1 + 1)) types (TypeU32 ∷ TypeU64 ∷ TypeI32 ∷ TypeI64 ∷ []) refl
      (with_type TypeU32 refl refl and with_type TypeU64 refl refl and with_type TypeI32 refl refl and with_type TypeI64 refl refl
      and done))
    where
      with_type : (t : ℕ) → is_type t ≡ true → heads t (sign t ∷ sign Semicolon ∷ []) ≡ true → Open false true ts MapField 64 i (i + 1 + 1) t
      with_type t q h =
          fitting t (typed (kind_at ts i) t) (i_typed e q) (sign t ∷ sign Semicolon ∷ []) refl
          (row ts i (kind_at ts i) refl (typed_mark (kind_at ts i) e) ▸ row ts (i + 1) Colon f refl) h

  -- a chain up to row k, which goes on with shifts that empty it
  limited : (i : ℕ) (c : Tree) (k : ℕ) → Is true Chain 64 c → Run ts i (sign KeywordMax ∷ sign Colon ∷ yield c) k
      → Open true false ts MapField 64 i k 0
  unfolding yield
  limited i c k h r =
      opened (limit (emptied c)) (i_emptied h) (sign Shl ∷ value 63 ∷ sign Shl ∷ value 1 ∷ sign Semicolon ∷ [])
      (ap (λ (l : List Tok). sign KeywordMax ∷ sign Colon ∷ l) (simp append_assoc)) r

  -- which ends, or goes on with any shift
  limit_open : (i : ℕ) (c : Tree) (k : ℕ) → Is true Chain 64 c → Run ts i (sign KeywordMax ∷ sign Colon ∷ yield c) k → (n : ℕ)
      → has (only Semicolon + shifts) n ≡ true → Open false true ts MapField 64 i k n
  unfolding yield
  limit_open i c k h r =
      each (Open false true ts MapField 64 i k) (only Semicolon + shifts) (Semicolon ∷ Shr ∷ Shl ∷ []) refl
      (fitting Semicolon (limit c) (i_limit (lax true h) aside) (sign Semicolon ∷ []) refl r refl and by_shift Shr refl refl and by_shift
      Shl refl refl and done)
    where
      by_shift : (n : ℕ) → is_shift n ≡ true → heads n (sign n ∷ []) ≡ true → Open false true ts MapField 64 i k n
      by_shift n b e =
          fitting n (limit (shifted n c 0)) (i_limit (i_shifted (lax true h) b aside) aside) (sign n ∷ value 0 ∷ sign Semicolon ∷ [])
          (ap (λ (l : List Tok). sign KeywordMax ∷ sign Colon ∷ l) (append_assoc (yield c) (sign n ∷ value 0 ∷ []) (sign Semicolon ∷ [])))
          r e

  limit_by : (D : ℕ → Type 0) (a b : Bool) (i : ℕ) (c : Tree) (k : ℕ) → Is true Chain 64 c → ChainEnd ts c k
      → Run ts i (sign KeywordMax ∷ sign Colon ∷ yield c) k
      → Stuck (Halt fields D ts MapField 64 i) (Parse.limit_by ts a b c k)
  unfolding Parse.limit_by is_check is_misfit lost
  limit_by D true b i c k h e r = checked D MapField i k MaxNegative k refl refl refl refl (limited i c k h r)
  limit_by D false true i c k h e r = checked D MapField i (k - 1) OutOfRange k refl refl refl (sym e) (limited i c k h r)
  limit_by D false false i c k h e r =
      want_in_halt ts fields D MapField 64 i (only Semicolon + shifts) Semicolon (ok (limit c)) k
      (holds (only Semicolon + shifts) Semicolon refl) (limit_open i c k h r) (λ q. tt)

  field_by : (D : ℕ → Type 0) (l : FieldLead) (i : ℕ) → FieldIs (kind_at ts i) l → (l ≡ nothing → ⊥) → i ≤ length ts
      → Stuck (Halt fields D ts MapField 64 i) (Parse.map_field_by ts l i)
  unfolding Parse.map_field_by yield is_check is_misfit lost
  field_by D typing i e n h =
      let x : Run ts i (sign KeywordType ∷ []) (i + 1) = row ts i KeywordType e refl in
      want_halt ts fields D MapField 64 i Colon _ (i + 1) (fitting Colon (map_type []) (i_type aside)
      (sign Colon ∷ sign Dot ∷ name [] ∷ sign Semicolon ∷ []) refl x refl) (λ f.
      let y : Run ts i (sign KeywordType ∷ sign Colon ∷ []) (i + 1 + 1) = x ▸ row ts (i + 1) Colon f refl in
      want_halt ts fields D MapField 64 i Dot _ (i + 1 + 1) (fitting Dot (map_type []) (i_type aside)
      (sign Dot ∷ name [] ∷ sign Semicolon ∷ []) refl y refl) (λ q.
      let z : Run ts i (sign KeywordType ∷ sign Colon ∷ sign Dot ∷ []) (i + 1 + 1 + 1) = y ▸ row ts (i + 1 + 1) Dot q refl in
      named_halt ts fields D MapField 64 i _ (i + 1 + 1 + 1) (fitting Identifier (map_type []) (i_type aside)
      (name [] ∷ sign Semicolon ∷ []) refl z refl) (λ c.
      type_by D (eqb (map_type_number (spelling_of (tok_at ts (i + 1 + 1 + 1)))) 0) i _ (i + 1 + 1 + 1) z (name_row ts (i + 1 + 1 + 1) c)
      refl)))
  field_by D keying i e n h =
      want_halt ts fields D MapField 64 i Colon _ (i + 1)
      (fitting Colon (typed (kind_at ts i) 21) (i_typed e refl) (sign Colon ∷ sign 21 ∷ sign Semicolon ∷ []) refl
      (row ts i (kind_at ts i) refl (typed_mark (kind_at ts i) e)) refl) (λ f.
      key_by D (is_type (kind_at ts (i + 1 + 1))) i e f refl)
  field_by D limiting i e n h =
      let x : Run ts i (sign KeywordMax ∷ []) (i + 1) = row ts i KeywordMax e refl in
      want_halt ts fields D MapField 64 i Colon _ (i + 1) (fitting Colon (limit (first 0)) (i_limit i_first aside)
      (sign Colon ∷ value 0 ∷ sign Semicolon ∷ []) refl x refl) (λ f.
      let y : Run ts i (sign KeywordMax ∷ sign Colon ∷ []) (i + 1 + 1) = x ▸ row ts (i + 1) Colon f refl in
      then_stuck (Halt fields D ts MapField 64 i) (λ c k. Reads ts Chain 64 (i + 1 + 1) c k × ChainEnd ts c k) (Parse.chain ts (i + 1 + 1))
      _
      (all_both (Reads ts Chain 64 (i + 1 + 1)) (ChainEnd ts) (Parse.chain ts (i + 1 + 1)) (chain_sound ts (i + 1 + 1))
      (chain_end ts (i + 1) f))
      (stuck_as (Halt fields D ts Chain 64 (i + 1 + 1)) (Halt fields D ts MapField 64 i) (Parse.chain ts (i + 1 + 1))
      (chain_stuck D (i + 1 + 1) y.inside)
      (λ why r o. wrap (λ c. limit (emptied c)) (λ c q. i_emptied q) (λ _ s x. x)
      (sign Shl ∷ value 63 ∷ sign Shl ∷ value 1 ∷ sign Semicolon ∷ []) refl
      (λ c. ap (λ (l : List Tok). sign KeywordMax ∷ sign Colon ∷ l) (simp append_assoc)) y o))
      (λ c k q r. limit_by D (leb (2 ^ 63) (max_bits c)) (not (leb (max_bits c) most32)) i c k r.0.is r.1 (y ▸ run_of r.0)))
  field_by D nothing i e n h = absurd (n refl)

  -- at a row that begins no field the whole list's set is told
  map_field_stuck : (i : ℕ) → i ≤ length ts → Unit {0}
      → Stuck (Thing ts fields MapField 64 map_fields Parse.map_field i) (Parse.map_field ts i)
  unfolding Parse.map_field Parse.map_field_by is_misfit is_check lost set_told
  map_field_stuck i h s = go (field_lead (kind_at ts i)) refl
    where
      H : Syntax → ℕ → Type 0
      H = Thing ts fields MapField 64 map_fields Parse.map_field i

      found : (l : FieldLead) → field_lead (kind_at ts i) ≡ l → (l ≡ nothing → ⊥) → Stuck H (Parse.map_field_by ts l i)
      found l e n =
          stuck_as (Refusal ts fields MapField 64 i i (λ x. Parse.map_field x i)) H (Parse.map_field_by ts l i)
          (field_by (Dooms ts i (λ x. Parse.map_field x i)) l i (subst (FieldIs (kind_at ts i)) e (field_is (kind_at ts i))) n h)
          (λ why r x. inside x)

      go : (l : FieldLead) → field_lead (kind_at ts i) ≡ l → Stuck H (Parse.map_field_by ts l i)
      go typing e = found typing e (λ q. let z : ◌≡◌ {A = ℕ} 0 1 = cc in omega arith)
      go keying e = found keying e (λ q. let z : ◌≡◌ {A = ℕ} 0 1 = cc in omega arith)
      go limiting e = found limiting e (λ q. let z : ◌≡◌ {A = ℕ} 0 1 = cc in omega arith)
      go nothing e = strange refl refl refl refl refl

  -- what closes a map, behind its fields: where the checks count, the fields that it lacks too
  abbrev closing : Bool → List Tok
  closing true =
      sign KeywordType ∷ sign Colon ∷ sign Dot ∷ name hash ∷ sign Semicolon ∷ sign KeywordKey ∷ sign Colon ∷ sign 21 ∷ sign Semicolon
      ∷ sign KeywordValue ∷ sign Colon ∷ sign 21 ∷ sign Semicolon ∷ sign KeywordMax ∷ sign Colon ∷ value 0 ∷ sign Semicolon ∷ sign
      RBrace ∷ []
  closing false = sign RBrace ∷ []

  abbrev completed : Bool → List ℕ → Tree → Tree
  completed true w l = map_decl w (filled l)
  completed false w l = map_decl w l

  map_made : (b : Bool) (n : ℕ) (w : List ℕ) (l : Tree) → Is b MapFields n l → Is b Decl n (completed b w l)
  map_made true n w l h = i_filled h
  map_made false n w l h = i_map h aside

  map_spells : (b : Bool) (w : List ℕ) (l : Tree)
      → yield (completed b w l) ≡ sign KeywordMap ∷ name w ∷ sign LBrace ∷ (yield l ++ closing b)
  unfolding yield
  map_spells true w l = ap (λ (x : List Tok). sign KeywordMap ∷ name w ∷ sign LBrace ∷ x) (simp append_assoc)
  map_spells false w l = refl

  -- behind the brace at row j
  map_end : (D : ℕ → Type 0) (f i : ℕ) (w : List ℕ) (l : Tree) (j : ℕ) → Is true MapFields 64 l
      → Run ts i (sign KeywordMap ∷ name w ∷ sign LBrace ∷ yield l) j
      → Stuck (Halt top D ts Decl 64 i) (Parse.map_end ts f w l (j + 1))
  unfolding Parse.map_end is_check is_misfit lost
  map_end D zero i w l j h r = tt
  map_end D (suc f) i w l j h r =
      loosely (checked D Decl i (j + 1) (MapLacks (suc f)) j refl refl refl (omega arith)
      (opened (map_decl w (filled l)) (i_filled h) (closing true) (map_spells true w l) r))

  -- what stands behind the brace of a map
  abbrev map_ends : List Tok → List ℕ → Tree → P
  map_ends x w l k = Parse.map_end x (lacking (type_of l) (typed_by KeywordKey l) (typed_by KeywordValue l) (limit_of l)) w l k

  pub map_stuck : (i : ℕ) → kind_at ts i ≡ KeywordMap → Refused ts top Decl 64 i i (λ x. Parse.map_at x i)
  unfolding Parse.map_at
  map_stuck i e =
      braced_stuck ts fields MapFields MapField 64 (λ b n. i_no_fields) (λ b n l s a c. i_fields a c) (omega arith) (λ j. Unit {0})
      map_fields RBrace map_field_kinds refl refl refl
      (map_field_begins 65) (λ n l s e. map_fields_else s e) Parse.map_field
      (map_field_sound ts) (λ j. all_any (Parse.map_field ts j)) (λ j ts' n a. map_field_local ts ts' n a j) map_field_stuck
      refl completed KeywordMap i map_ends closing refl map_made map_spells (row ts i KeywordMap e refl) (λ b. tt)
      (λ w l j h r. map_end (Dooms ts i (λ x. Parse.braced x map_fields (Parse.map_field x) (map_ends x) i))
      (lacking (type_of l) (typed_by KeywordKey l) (typed_by KeywordValue l) (limit_of l)) i w l j h r)

  -- ---- events

  -- a length at row k, behind a bracket, then `]` and `;`, behind rows that were read from row i on
  module _ (D : ℕ → Type 0) (i k : ℕ) (xs : List Tok) (f : ℕ → Tree)
      (made : (b : Bool) (n v : ℕ) → (b ≡ true → leb v most32 ≡ true) → Is b EventField n (f v))
      (spells : (v : ℕ) → yield (f v) ≡ xs ++ (value v ∷ sign RBracket ∷ sign Semicolon ∷ [])) (x : Run ts i xs k)
      (bracket : kind_at ts (k - 1) ≡ LBracket) where
    length_lost : lost ts OutOfRange k ≡ k
    unfolding lost
    length_lost = rw bracket

    length_by : (b : Bool) → kind_at ts k ≡ Number
        → Stuck (Halt fields D ts EventField 64 i) (Parse.length_by ts b f (bits_in (tok_at ts k)) k (k + 1))
    unfolding Parse.length_by is_check is_misfit
    length_by true e =
        let v : ℕ = bits_in (tok_at ts k) in
        want_halt ts fields D EventField 64 i RBracket _ (k + 1)
        (fitting RBracket (f v) (made false 65 v aside) (sign RBracket ∷ sign Semicolon ∷ [])
        (spells v ∙ sym (append_assoc xs (value v ∷ []) (sign RBracket ∷ sign Semicolon ∷ []))) (x ▸ value_row ts k e) refl) (λ b.
        last_halt ts fields D EventField 64 i Semicolon (f v) (k + 1 + 1)
        (fitting Semicolon (f v) (made false 65 v aside) (sign Semicolon ∷ [])
        (spells v ∙ sym (append_assoc xs (value v ∷ sign RBracket ∷ []) (sign Semicolon ∷ [])))
        (x ▸ value_row ts k e ▸ row ts (k + 1) RBracket b refl) refl))
    length_by false e =
        checked D EventField i k OutOfRange k refl refl refl (sym length_lost) (opened (f 0) (made true 64 0 (λ _. refl)) _ (spells 0) x)

    length_stuck : Stuck (Halt fields D ts EventField 64 i) (Parse.length_at ts f k)
    unfolding Parse.length_at
    length_stuck =
        valued_halt ts fields D EventField 64 i _ k (fitting Number (f 0) (made false 65 0 aside) _ (spells 0) x refl)
        (λ e. length_by (leb (bits_in (tok_at ts k)) most32) e)

  module _ (D : ℕ → Type 0) (i : ℕ) (w : List ℕ) (x : Run ts i (name w ∷ sign Colon ∷ []) (i + 1 + 1)) where
    -- the row in front of a length
    bracketed : kind_at ts (i + 1 + 1 + 1) ≡ LBracket → kind_at ts (i + 1 + 1 + 1 + 1 - 1) ≡ LBracket
    bracketed b = ap (λ (n : ℕ). kind_at ts n) (omega arith) ∙ b

    array_by : (c : Bool) → is_type (kind_at ts (i + 1 + 1)) ≡ true → eqb (kind_at ts (i + 1 + 1 + 1)) LBracket ≡ c
        → Stuck (Halt fields D ts EventField 64 i) (Parse.array_by ts c w (i + 1 + 1))
    unfolding Parse.array_by yield
    array_by true t c =
        let b : kind_at ts (i + 1 + 1 + 1) ≡ LBracket = eqb-true (kind_at ts (i + 1 + 1 + 1)) LBracket c in
        length_stuck D i (i + 1 + 1 + 1 + 1) _ (λ v. array_field w (kind_at ts (i + 1 + 1)) v) (λ b n v q. i_array_field t q) (λ v. refl)
        (x ▸ row ts (i + 1 + 1) (kind_at ts (i + 1 + 1)) refl (type_mark (kind_at ts (i + 1 + 1)) t) ▸ row ts (i + 1 + 1 + 1) LBracket b
        refl) (bracketed b)
    array_by false t c =
        let k : ℕ = kind_at ts (i + 1 + 1) in
        let y : Run ts i (name w ∷ sign Colon ∷ sign k ∷ []) (i + 1 + 1 + 1) = x ▸ row ts (i + 1 + 1) k refl (type_mark k t) in
        let s : ℕ = only Semicolon + only LBracket in
        want_in_halt ts fields D EventField 64 i s Semicolon _ (i + 1 + 1 + 1) (holds s Semicolon refl)
        (each (Open false true ts EventField 64 i (i + 1 + 1 + 1)) s (Semicolon ∷ LBracket ∷ []) refl
        (fitting Semicolon (plain_field w k) (i_plain_field t) (sign Semicolon ∷ []) refl y refl
        and fitting LBracket (array_field w k 0) (i_array_field t aside) (sign LBracket ∷ value 0 ∷ sign RBracket ∷ sign Semicolon ∷ [])
        refl y refl and done)) (λ q. tt)

    event_by : (l : EventLead) → EventIs (kind_at ts (i + 1 + 1)) l
        → Stuck (Halt fields D ts EventField 64 i) (Parse.event_type_by ts l w (i + 1 + 1))
    unfolding Parse.event_type_by yield is_check is_misfit lost set_told
    event_by type_lead t = array_by (eqb (kind_at ts (i + 1 + 1 + 1)) LBracket) t refl
    event_by bytes_lead t =
        let y : Run ts i (name w ∷ sign Colon ∷ sign KeywordBytes ∷ []) (i + 1 + 1 + 1) = x ▸ row ts (i + 1 + 1) KeywordBytes t refl in
        want_halt ts fields D EventField 64 i LBracket _ (i + 1 + 1 + 1)
        (fitting LBracket (bytes_field w 0) (i_bytes_field aside) (sign LBracket ∷ value 0 ∷ sign RBracket ∷ sign Semicolon ∷ []) refl y
        refl) (λ b.
        length_stuck D i (i + 1 + 1 + 1 + 1) _ (λ v. bytes_field w v) (λ b n v q. i_bytes_field q) (λ v. refl)
        (y ▸ row ts (i + 1 + 1 + 1) LBracket b refl) (bracketed b))
    event_by no_lead t =
        misfit ts fields D EventField 64 i NotEventType (i + 1 + 1) (i + 1 + 1) TypeU32 refl refl refl (holds event_types TypeU32 refl)
        (each (Open false true ts EventField 64 i (i + 1 + 1)) event_types (TypeU32 ∷ TypeU64 ∷ TypeI32 ∷ TypeI64 ∷ KeywordBytes ∷ []) refl
        (of_type TypeU32 refl refl and of_type TypeU64 refl refl and of_type TypeI32 refl refl and of_type TypeI64 refl refl
        and fitting KeywordBytes (bytes_field w 0) (i_bytes_field aside)
        (sign KeywordBytes ∷ sign LBracket ∷ value 0 ∷ sign RBracket ∷ sign Semicolon ∷ []) refl x refl
        and done))
      where
        of_type : (k : ℕ) → is_type k ≡ true → heads k (sign k ∷ []) ≡ true → Open false true ts EventField 64 i (i + 1 + 1) k
        of_type k q h = fitting k (plain_field w k) (i_plain_field q) (sign k ∷ sign Semicolon ∷ []) refl x h

  event_field_stuck : (i : ℕ) → i ≤ length ts → Refused ts fields EventField 64 i i (λ x. Parse.event_field x i)
  unfolding Parse.event_field yield
  event_field_stuck i h =
      let D : ℕ → Type 0 = Dooms ts i (λ x. Parse.event_field x i) in
      named_halt ts fields D EventField 64 i _ i (fitting Identifier (plain_field [] 21) (i_plain_field refl) _ refl (run_none ts i h) refl)
      (λ e.
      want_halt ts fields D EventField 64 i Colon _ (i + 1)
      (fitting Colon (plain_field _ 21) (i_plain_field refl) (sign Colon ∷ sign 21 ∷ sign Semicolon ∷ []) refl (name_row ts i e) refl) (λ f.
      event_by D i _ (name_row ts i e ▸ row ts (i + 1) Colon f refl) (event_lead (kind_at ts (i + 1 + 1)))
      (event_is (kind_at ts (i + 1 + 1)))))

  pub event_stuck : (i : ℕ) → kind_at ts i ≡ KeywordEvent → Refused ts top Decl 64 i i (λ x. Parse.event_at x i)
  unfolding Parse.event_at yield
  event_stuck i e =
      braced_stuck ts fields EventFields EventField 64 (λ b n. i_no_event_fields) (λ b n l s a c. i_event_fields a c) (omega arith)
      (λ j. Unit {0}) event_fields RBrace
      (Identifier ∷ []) refl refl refl (event_field_begins 65) (λ n l s e. event_fields_else s e) Parse.event_field
      (event_field_sound ts) (λ j. all_any (Parse.event_field ts j)) (λ j ts' n a. event_field_local ts ts' n a j)
      (λ i h y. stuck_as (Refusal ts fields EventField 64 i i (λ x. Parse.event_field x i))
      (Thing ts fields EventField 64 event_fields Parse.event_field i)
      (Parse.event_field ts i) (event_field_stuck i h) (λ why r x. inside x))
      refl (λ b. event) KeywordEvent i (λ x w l k. ok (event w l) k) (λ b. sign RBrace ∷ []) refl (λ b n w l q. i_event q) (λ b w l. refl)
      (row ts i KeywordEvent e refl)
      (λ b. tt) (λ w l j h r. tt)
