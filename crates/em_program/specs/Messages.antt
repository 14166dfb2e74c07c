-- What `emake` says besides its jobs.
--     image_line e                         why there is no build; em_closing has the other reasons
--     still_changing                       why rounds come to no end
--     report_line at, insight_line e       why a report isn't explained
--     summary jobs printed nodes status    what a generated project's build comes to
use Rattle.std.specs.Prelude.{ℕ, List, [], ◌++◌, codes, decimal}
use Rattle.em_image.specs.declared.no.ImageNo.{ImageNo}
use Rattle.em_image.specs.declared.no.ImageNo.TheVariants as no
use Rattle.em_image.specs.declared.no.Which.{Which}
use Rattle.em_image.specs.declared.no.Which.TheVariants as which
use Rattle.em_insight.specs.declared.no.InsightNo.{InsightNo}
use Rattle.em_insight.specs.declared.no.InsightNo.TheVariants as insight
use Rattle.em_closing.specs.Refusals.{stopped}

-- the words are none that are read
abbrev pub bad_words : List ℕ
bad_words = codes "emake: *** bad words.  Stop.\n"

abbrev pub no_image : List ℕ
no_image = stopped (codes "image: absent")

abbrev pub limit_name : Which → List ℕ
limit_name which.Image = codes "Limit(Image)"
limit_name which.Nodes = codes "Limit(Nodes)"
limit_name which.File = codes "Limit(File)"
limit_name which.Stamp = codes "Limit(Stamp)"
limit_name which.Link = codes "Limit(Link)"

abbrev pub fault_name : ImageNo → List ℕ
fault_name (no.Form at) = codes "Form"
fault_name (no.Number at) = codes "Number"
fault_name (no.Path at) = codes "Path"
fault_name (no.Order at) = codes "Order"
fault_name (no.Parent at) = codes "Parent"
fault_name (no.Short at) = codes "Short"
fault_name (no.Rest at) = codes "Rest"
fault_name (no.Limit w at) = limit_name w
fault_name no.NoMemory = []

abbrev pub fault_place : ImageNo → ℕ
fault_place (no.Form at) = at
fault_place (no.Number at) = at
fault_place (no.Path at) = at
fault_place (no.Order at) = at
fault_place (no.Parent at) = at
fault_place (no.Short at) = at
fault_place (no.Rest at) = at
fault_place (no.Limit w at) = at
fault_place no.NoMemory = 0

abbrev pub image_line : ImageNo → List ℕ
image_line e = stopped (codes "image: " ++ fault_name e ++ codes " at byte " ++ decimal (fault_place e))

abbrev pub no_report : List ℕ
no_report = stopped (codes "report: absent")

abbrev pub report_text : ℕ → List ℕ
report_text at = codes "report: Form at byte " ++ decimal at

abbrev pub report_line : ℕ → List ℕ
report_line at = stopped (report_text at)

abbrev pub insight_text : InsightNo → List ℕ
insight_text (insight.Order job) = codes "report: job " ++ decimal job
insight_text insight.Sum = codes "report: too much fuel"
insight_text insight.NoMemory = []

abbrev pub insight_line : InsightNo → List ℕ
insight_line e = stopped (insight_text e)

-- the last round has changed a makefile again
abbrev pub still_changing : List ℕ
still_changing = stopped (codes "Makefiles still change after 8 readings")

abbrev pub summary : ℕ → ℕ → ℕ → ℕ → List ℕ
summary jobs printed nodes status =
    codes "jobs " ++ decimal jobs ++ codes "\nprinted " ++ decimal printed ++ codes "\nnodes " ++ decimal nodes
    ++ codes "\nstatus " ++ decimal status ++ codes "\n"
