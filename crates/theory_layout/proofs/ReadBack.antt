-- Reading back: for every text that parses, its layout, if it is no longer than a text may be, scans to its end and reads as the tree that was
-- written, whose nodes have the same kinds, children, spellings and facts. Laid out again it is the same bytes.
use mathlib.Core.Path.{◌≡◌, refl, sym, ap, ◌∙◌, subst}
use mathlib.Core.Bool.{Bool, true, false, cond, true≢false}
use mathlib.Core.List.{List, [], ◌∷◌, ◌++◌, append-nil}
use Prim.Native.Nat.{ℕ, zero, suc, ◌+◌, ◌≤◌, ◌<◌}
use native.Mathlib.Omega.{arith}
use lib.Dec.{eqb}
use lib.ListN.{length, get_or, length-append, length-map}
use borrow.Author.Tests.{eqb-true, eqb-false, eq-eqb}
use Rattle.std.specs.declared.result.Result.TheVariants.{Ok}
use Rattle.std.specs.declared.option.Option.TheVariants.{None}
use Rattle.rules.specs.Text.{most_bytes, place_at, text_judged, valid}
use Rattle.rules.specs.Kinds.{Eof}
use Rattle.rules.specs.Scan.{scan, read, read_rows, read_ending}
use Rattle.rules.specs.Tree.{Tok, sign, kind_of, tok_of, Tree, program, yield}
use Rattle.rules.specs.Nodes.{missing}
use Rattle.rules.specs.Parse.{Out, ok, parse, kind_at, tok_at}
use Rattle.rules.specs.Calls.{tokens}
use Rattle.rules.specs.Grammar.{Decls, Program, Is, i_program}
use Rattle.laws.proofs.Rows.{few_rows}
use Rattle.laws.proofs.Valid.{text_fine, fine_text}
use Rattle.theory_grammar.specs.Tokens.{Whole}
use Rattle.theory_grammar.proofs.Sound.{parse_whole}
use Rattle.theory_grammar.proofs.Same.{accepts_exactly}
use Rattle.theory_grammar.proofs.Tables.{tokens_proper}
use Rattle.rules_layout.specs.Rows.{laid}
use Rattle.rules_layout.specs.Bytes.{row_bytes, rows_bytes, layout}
use Rattle.rules_layout.specs.Layout.{reading}
use Rattle.theory_layout.specs.Back.{tokens_of, faces, ReadsBack}
use Rattle.theory_layout.proofs.Laid.{laid_program}
use Rattle.theory_layout.proofs.Faces.{shown, keeps}
use Rattle.theory_layout.proofs.Among.{faces_shown}
use Rattle.theory_layout.proofs.Scanned.{Good, Goods, no_more, and, scans_back}
use Rattle.theory_layout.proofs.Spelt.{Ready, scanned_good}
use Rattle.theory_layout.proofs.Written.{made}
use Rattle.theory_layout.proofs.Twice.{twice}

-- ---- tokens with one Eof, the last

-- behind tokens that are none
eof_behind : (xs : List Tok) → Goods xs → (i : ℕ) → i < length xs → kind_at (xs ++ (sign Eof ∷ [])) i ≡ Eof → ⊥
eof_behind [] no_more i h e = omega arith
eof_behind (x ∷ xs) (and g gs) zero h e = eqb-false (kind_of x) Eof g.more e
eof_behind (x ∷ xs) (and g gs) (suc i) h e = eof_behind xs gs i (omega arith) e

last_eof : (xs : List Tok) → kind_at (xs ++ (sign Eof ∷ [])) (length xs) ≡ Eof
unfolding kind_of
last_eof [] = refl
last_eof (x ∷ xs) = last_eof xs

whole : (t : List ℕ) (xs : List Tok) → tokens_of t ≡ xs ++ (sign Eof ∷ []) → Goods xs → Whole (tokens_of t)
unfolding tokens_of
whole t xs e g = record {
  proper = tokens_proper t (read_rows (scan t));
  last = length xs;
  long = ap length e ∙ length-append xs (sign Eof ∷ []);
  closed = ap (λ (l : List Tok). kind_at l (length xs)) e ∙ last_eof xs;
  only = λ i h f. eof_behind xs g i h (ap (λ (l : List Tok). kind_at l i) (sym e) ∙ f);
}

-- what stands before the same last token is the same
before : (xs ys : List Tok) (x y : Tok) → xs ++ (x ∷ []) ≡ ys ++ (y ∷ []) → xs ≡ ys
before [] [] x y e = refl
before [] (b ∷ []) x y e = let z : ◌≡◌ {A = ℕ} 1 2 = ap length e in absurd (omega arith)
before [] (b ∷ c ∷ ys) x y e = absurd (omega (arith, ap length e, length-append (b ∷ c ∷ ys) (y ∷ [])))
before (a ∷ []) [] x y e = let z : ◌≡◌ {A = ℕ} 2 1 = ap length e in absurd (omega arith)
before (a ∷ b ∷ xs) [] x y e = absurd (omega (arith, ap length e, length-append (a ∷ b ∷ xs) (x ∷ [])))
before (a ∷ xs) (b ∷ ys) x y e = go (before xs ys x y rest)
  where
    rest : xs ++ (x ∷ []) ≡ ys ++ (y ∷ [])
    rest = cc

    first : a ≡ b
    first = cc

    go : xs ≡ ys → (a ∷ xs) ≡ (b ∷ ys)
    go f = rw (first, f)

-- ---- no more tokens than rows have numbers

pub few_tokens : (t : List ℕ) → length t ≤ most_bytes → length (tokens_of t) ≤ missing
unfolding tokens_of tokens scan
few_tokens t h = omega (arith, length-map (read_rows (read (place_at t) 0 0 0 t)) (tok_of t), few_rows (place_at t) 0 0 0 t)

-- ---- the theorem

-- Eof adds no bytes
no_bytes : (xs : List Tok) → rows_bytes (xs ++ (sign Eof ∷ [])) ≡ rows_bytes xs
unfolding rows_bytes row_bytes kind_of
no_bytes [] = refl
no_bytes (x ∷ xs) = ap (λ (l : List ℕ). row_bytes x ++ l) (no_bytes xs)

-- a program's declarations
module _ (t : List ℕ) (l : Tree) (fine : text_judged t ≡ Ok tt) (ends : read_ending (scan t) ≡ None) (e : tokens_of t ≡ yield (program l))
    (is : Is true Decls 64 l) (short : length (layout (program l)) ≤ most_bytes) where
  long : length t ≤ most_bytes
  long = (fine_text t fine).0

  -- the tokens that are written
  goods : Goods (yield (laid l))
  unfolding tokens_of tokens yield
  goods =
      let r : Ready t (scan t) = scanned_good t (fine_text t fine).1 ends in
      made is (subst Goods (before r.toks (yield l) (sign Eof) (sign Eof) (sym r.same ∙ e)) r.good)

  bytes : layout (program l) ≡ rows_bytes (yield (laid l))
  unfolding layout laid yield
  bytes = no_bytes (yield (laid l))

  back : (valid (rows_bytes (yield (laid l))) ≡ true) × (read_ending (scan (rows_bytes (yield (laid l)))) ≡ None)
      × (tokens_of (rows_bytes (yield (laid l))) ≡ yield (laid l) ++ (sign Eof ∷ []))
  back = scans_back (yield (laid l)) goods

  toks : tokens_of (layout (program l)) ≡ yield (laid l) ++ (sign Eof ∷ [])
  toks = ap tokens_of bytes ∙ back.2

  toks_program : tokens_of (layout (program l)) ≡ yield (laid (program l))
  unfolding laid yield
  toks_program = toks

  reads_back : ReadsBack t (program l)
  unfolding reading tokens tokens_of
  reads_back = record {
    fine = text_fine (layout (program l)) short (rw bytes back.0);
    whole = rw bytes back.1;
    reads = reads;
    same = same;
  }
    where
      is_laid : Is true Program 64 (laid (program l))
      is_laid = laid_program 64 (program l) (i_program is)

      reads : parse (tokens_of (layout (program l))) ≡ ok (laid (program l)) (length (tokens_of (layout (program l))))
      reads = (accepts_exactly (tokens_of (layout (program l))) (laid (program l)) (whole (layout (program l)) (yield (laid l)) toks goods)).1 (is_laid, toks_program)

      same : faces (tokens_of (layout (program l))) (laid (program l)) ≡ faces (tokens_of t) (program l)
      same =
          faces_shown (tokens_of (layout (program l))) (few_tokens (layout (program l)) short) (laid (program l)) toks_program
          ∙ (keeps (i_program is)).nodes
          ∙ sym (faces_shown (tokens_of t) (few_tokens t long) (program l) e)

same_tree : {o : Out} {v u : Tree} {j k : ℕ} → o ≡ ok v j → o ≡ ok u k → v ≡ u
same_tree e f = cc

by_program : (C : Tree → Type 0) {d : ℕ} (u : Tree) → ((l : Tree) → Is true Decls d l → C (program l)) → Is true Program d u → C u
by_program C u f (i_program {l = l} h) = f l h

-- the tokens of a text that scans to its end have one Eof, the last
pub text_whole : (t : List ℕ) → text_judged t ≡ Ok tt → read_ending (scan t) ≡ None → Whole (tokens_of t)
unfolding tokens tokens_of
text_whole t fine ends = let r : Ready t (scan t) = scanned_good t (fine_text t fine).1 ends in whole t r.toks r.same r.good

-- what is read of them is their program
pub program_of : (t : List ℕ) (u : Tree) (j : ℕ) → text_judged t ≡ Ok tt → read_ending (scan t) ≡ None → reading t ≡ ok u j
    → Is true Program 64 u × (tokens_of t ≡ yield u)
unfolding reading tokens_of
program_of t u j fine ends e = let x = parse_whole (tokens_of t) u j (text_whole t fine ends) e in (x.0, x.1)

-- For every text that parses the layout reads back.
pub read_back : (t : List ℕ) (u : Tree) (j : ℕ) → text_judged t ≡ Ok tt → read_ending (scan t) ≡ None → reading t ≡ ok u j
    → length (layout u) ≤ most_bytes → ReadsBack t u
read_back t u j fine ends e short =
    let h = program_of t u j fine ends e in
    by_program (λ u. tokens_of t ≡ yield u → length (layout u) ≤ most_bytes → ReadsBack t u) u (λ l i f s. reads_back t l fine ends f i s) h.0 h.1 short

-- Laid out twice it is the same bytes.
pub laid_again : (t : List ℕ) (u : Tree) (j : ℕ) → text_judged t ≡ Ok tt → read_ending (scan t) ≡ None → reading t ≡ ok u j
    → length (layout u) ≤ most_bytes → (v : Tree) (k : ℕ) → reading (layout u) ≡ ok v k → layout v ≡ layout u
laid_again t u j fine ends e short v k f =
    let b : ReadsBack t u = read_back t u j fine ends e short in
    let s : v ≡ laid u = same_tree f b.reads in
    ap layout s ∙ twice u
