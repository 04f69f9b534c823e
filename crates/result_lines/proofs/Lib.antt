mod PlainObjects
