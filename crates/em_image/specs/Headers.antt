-- The line of a node as the code holds it.
use Rattle.em_image.specs.declared.header.Header.{Header}
use Rattle.em_image.specs.Reading as reading

abbrev pub header_of : Header → reading.Header
header_of h = record { stamp = h.stamp; sort = h.sort; path = h.path; place = h.place }
