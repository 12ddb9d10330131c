-- The verdicts of situations: lines of TAP, and a report in the JUnit format.
use Rattle.std.specs.Prelude.{◌≡◌, ◌==◌, ◌||◌, ℕ, Bool, true, false, nat_lt, List, [], ◌∷◌, ◌++◌, codes, if◌then◌else◌, refl}
use Rattle.std.specs.Fmt.{decimal, digits}

abbrev pub verdict_line : (is_passed : Bool) → (number : ℕ) → List ℕ → List ℕ
verdict_line is_passed number name = (if is_passed then [] else codes "not ") ++ (codes "ok " ++ (decimal number ++ (codes " - " ++ (name ++ 10 ∷ []))))

-- a character as XML text, which has no control character except the line feed
abbrev pub escaped_byte : ℕ → List ℕ
escaped_byte byte =
    if byte == 38 then codes "&amp;"
    else if byte == 60 then codes "&lt;"
    else if byte == 62 then codes "&gt;"
    else if byte == 34 then codes "&quot;"
    else if byte == 10 then 10 ∷ []
    else if nat_lt byte 32 || byte == 127 then 63 ∷ []
    else byte ∷ []

abbrev pub escaped : List ℕ → List ℕ
escaped [] = []
escaped (byte ∷ bytes) = escaped_byte byte ++ escaped bytes

-- the version and the number of situations
abbrev pub plan : (situations : ℕ) → List ℕ
plan situations = codes "TAP version 13\n1.." ++ (decimal situations ++ 10 ∷ [])

-- a situation in a report, with what arrived if that differs from what was expected
abbrev pub case : (name difference : List ℕ) → List ℕ
case name [] = codes "  <testcase name=\"" ++ (escaped name ++ codes "\"/>\n")
case name (byte ∷ more) =
    codes "  <testcase name=\"" ++ (escaped name ++ (codes "\"><failure>" ++ (escaped (byte ∷ more) ++ codes "</failure></testcase>\n")))

-- a situation whose play broke off, and why
abbrev pub broken : (name why : List ℕ) → List ℕ
broken name why = codes "  <testcase name=\"" ++ (escaped name ++ (codes "\"><error>" ++ (escaped why ++ codes "</error></testcase>\n")))

-- a report: its head, and its cases
abbrev pub suite : (name : List ℕ) → (situations failed errors : ℕ) → (cases : List ℕ) → List ℕ
suite name situations failed errors cases =
    codes "<?xml version=\"1.0\" encoding=\"UTF-8\"?>\n<testsuite name=\"" ++ (name ++ (codes "\" tests=\"" ++ (decimal situations
    ++ (codes "\" failures=\"" ++ (decimal failed ++ (codes "\" errors=\"" ++ (decimal errors ++ (codes "\">\n" ++ (cases ++ codes "</testsuite>\n")))))))))

passed : verdict_line true 3 (codes "decline") ≡ codes "ok 3 - decline\n"
unfolding digits
passed = refl

failed : verdict_line false 12 (codes "decline") ≡ codes "not ok 12 - decline\n"
unfolding digits
failed = refl

special : escaped (codes "a&b > \"") ≡ codes "a&amp;b &gt; &quot;"
special = refl

planned : plan 3 ≡ codes "TAP version 13\n1..3\n"
unfolding digits
planned = refl

passes : case (codes "a<b") [] ≡ codes "  <testcase name=\"a&lt;b\"/>\n"
passes = refl

differs : case (codes "decline") (codes "a&b") ≡ codes "  <testcase name=\"decline\"><failure>a&amp;b</failure></testcase>\n"
differs = refl

breaks : broken (codes "decline") (codes "a&b") ≡ codes "  <testcase name=\"decline\"><error>a&amp;b</error></testcase>\n"
breaks = refl

reported : suite (codes "check-till") 3 1 2 (codes "x") ≡ codes "<?xml version=\"1.0\" encoding=\"UTF-8\"?>\n<testsuite name=\"check-till\" tests=\"3\" failures=\"1\" errors=\"2\">\nx</testsuite>\n"
unfolding digits
reported = refl
