-- Figures as text (Prometheus, text format, version 0.0.4).
use Rattle.std.specs.Prelude.{ℕ, ◌+◌, ◌/◌, ◌%◌, ◌==◌, List, [], ◌∷◌, ◌++◌, drop, if◌then◌else◌, codes, decimal}
use Rattle.std.specs.List.{flat_map}
use Rattle.site_status.specs.declared.exposition.TheConstants.{NANOS}
use Rattle.site_status.specs.declared.exposition.Kind.{Kind}
use Rattle.site_status.specs.declared.exposition.Kind.TheVariants.{Counter, Gauge, Histogram}
use Rattle.site_status.specs.declared.exposition.Family.{Family}
use Rattle.site_status.specs.declared.exposition.Label.{Label}
use Rattle.site_status.specs.declared.exposition.Number.{Number}
use Rattle.site_status.specs.declared.exposition.Number.TheVariants.{Whole, Nanos}

-- a byte of a label's value: a backslash, a quote and a line feed are escaped
abbrev pub escaped_byte : ℕ → List ℕ
escaped_byte byte =
    if byte == 92 then 92 ∷ 92 ∷ []
    else (if byte == 34 then 92 ∷ 34 ∷ [] else (if byte == 10 then 92 ∷ 110 ∷ [] else byte ∷ []))

-- a label's value
abbrev pub escaped : List ℕ → List ℕ
escaped bytes = flat_map escaped_byte bytes

-- a label: its name, and its value in quotes
abbrev pub label_text : Label → List ℕ
label_text label = label.name.now ++ codes "=\"" ++ escaped label.value.now ++ codes "\""

-- labels, each behind a comma
abbrev pub others_text : List Label → List ℕ
others_text others = flat_map (λ label. codes "," ++ label_text label) others

-- labels in braces, with commas between them; nothing where there are none
abbrev pub labels_text : List Label → List ℕ
labels_text [] = []
labels_text (first ∷ others) = codes "{" ++ label_text first ++ others_text others ++ codes "}"

-- a number: nanoseconds are said in seconds, with nine digits behind the point
abbrev pub number_text : Number → List ℕ
number_text (Whole count) = decimal count
number_text (Nanos nanos) = decimal (nanos / NANOS) ++ codes "." ++ drop 1 (decimal (NANOS + nanos % NANOS))

-- what the format calls a kind
abbrev pub kind_text : Kind → List ℕ
kind_text Counter = codes "counter"
kind_text Gauge = codes "gauge"
kind_text Histogram = codes "histogram"

-- what a figure is, on two lines
abbrev pub heading_text : Family → List ℕ
heading_text family =
    codes "# HELP " ++ family.name.now ++ codes " " ++ family.help.now
    ++ codes "\n# TYPE " ++ family.name.now ++ codes " " ++ kind_text family.kind ++ codes "\n"

-- a sample, on one line
abbrev pub sample_text : List ℕ → List ℕ → List Label → Number → List ℕ
sample_text name suffix labels number =
    name ++ suffix ++ labels_text labels ++ codes " " ++ number_text number ++ codes "\n"

-- a figure of one sample
abbrev pub figure_text : Family → Number → List ℕ
figure_text family number = heading_text family ++ sample_text family.name.now [] [] number
