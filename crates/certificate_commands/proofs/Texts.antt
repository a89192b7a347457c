-- The text of lines that follow one another.
use Rattle.std.proofs.Common.{◌≡◌, ℕ, List, [], ◌∷◌, ◌++◌, refl, sym, ap, subst, ◌∙◌, append_assoc}
use Rattle.std.specs.Prelude.{flat_map}
use Rattle.bz_model.specs.Spec.{Spec}
use Rattle.certificate.specs.declared.certificate.CertEntry.{CertEntry}
use Rattle.certificate.specs.declared.certificate.Certificate.{Certificate}
use Rattle.certificate.specs.declared.certificate.Header.{Header}
use Rattle.certificate.specs.Certificates.{header_lines, entry_lines, closing_lines}
use Rattle.certificate.specs.Lines.{Line, whole_line, text_of}
use Rattle.certificate_commands.specs.MigrateCommand.{entry_text, header_in_2, migrated_text}

lines-append : (xs ys : List Line) → text_of (xs ++ ys) ≡ text_of xs ++ text_of ys
lines-append [] ys = refl
lines-append (x ∷ xs) ys = ap (λ t. whole_line x ++ t) (lines-append xs ys) ∙ sym (append_assoc (whole_line x) (text_of xs) (text_of ys))

-- the texts of entries are that of their lines
entries-text : (es : List CertEntry) → flat_map entry_text es ≡ text_of (flat_map entry_lines es)
entries-text [] = refl
entries-text (e ∷ es) = ap (λ t. entry_text e ++ t) (entries-text es) ∙ sym (lines-append (entry_lines e) (flat_map entry_lines es))

-- the text of a header, entries and a closing
pub three-parts : (first last : List Line) (es : List CertEntry) → (text_of first ++ flat_map entry_text es) ++ text_of last ≡ text_of (first ++ (flat_map entry_lines es ++ last))
three-parts first last es =
    append_assoc (text_of first) (flat_map entry_text es) (text_of last)
    ∙ ap (λ t. text_of first ++ (t ++ text_of last)) (entries-text es)
    ∙ ap (λ t. text_of first ++ t) (sym (lines-append (flat_map entry_lines es) last))
    ∙ sym (lines-append first (flat_map entry_lines es ++ last))

-- the parts of a certificate's text in version 2
pub in_2 : (s : Spec) (c : Certificate) (h : Header) (header texts last all : List ℕ) → h ≡ header_in_2 s c.header → header ≡ text_of (header_lines h) → texts ≡ header ++ flat_map entry_text c.entries → last ≡ text_of (closing_lines c.closing) → all ≡ texts ++ last → all ≡ migrated_text s c
in_2 s c h header texts last all same first middle end joined =
    joined ∙ ap (λ t. t ++ last) middle ∙ ap (λ t. (header ++ flat_map entry_text c.entries) ++ t) end
    ∙ ap (λ t. (t ++ flat_map entry_text c.entries) ++ text_of (closing_lines c.closing)) first
    ∙ three-parts (header_lines h) (closing_lines c.closing) c.entries
    ∙ ap (λ (k : Header). text_of (header_lines k ++ (flat_map entry_lines c.entries ++ closing_lines c.closing))) same
