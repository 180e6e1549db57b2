-- `field_words` meets its contract: form by form.
use Rattle.layout_back.proofs.Back.{wrote_as, wrote_then}
use Rattle.layout_words.proofs.Words.{low_only, plain_words, bytes_words, array_words}
use Rattle.layout_words.proofs.field_words.Goals as goal

pub returns-then-form-eq-FORM_PLAIN : goal.returns-then-form-eq-FORM_PLAIN
returns-then-form-eq-FORM_PLAIN c = wrote_as (plain_words _ _ _
    c.if-form-eq-FORM_PLAIN.true)
    (wrote_then (wrote_then c.bytes-end.ensures
    c.type_word-to.ensures) c.bytes.ensures)

pub returns-then-form-eq-FORM_BYTES : goal.returns-then-form-eq-FORM_BYTES
returns-then-form-eq-FORM_BYTES c =
    let n = wrote_as (low_only _) c.number-number.ensures in
    wrote_as (bytes_words _ _ _ c.if-form-eq-FORM_BYTES.true)
    (wrote_then (wrote_then
    c.bytes-shut.ensures n)
    c.bytes-then-form-eq-FORM_BYTES.ensures)

pub returns : goal.returns
returns c =
    let n = wrote_as (low_only _)
    c.number-number.ensures in
    wrote_as (array_words _ _ _
    c.if-form-eq-FORM_PLAIN.false
    c.if-form-eq-FORM_BYTES.false)
    (wrote_then (wrote_then (wrote_then (wrote_then
    c.bytes-shut.ensures n)
    c.bytes-opens.ensures)
    c.type_word-to-2.ensures) c.bytes-2.ensures)
